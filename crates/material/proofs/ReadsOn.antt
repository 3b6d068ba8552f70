-- Document 01, "Material": "A reader over the lent material goes from one marked record to the next and remembers how far it is." Where that leads in a
-- material that is well-formed for a circuit: from the first record to that of each charged gate in turn, to the last record, and to the end.
-- `found_record s at` is what `record_at` answers at a place of s: what stands there, and the place past it. Assumes nothing.
use Prim.Native.Nat.{ℕ, zero, suc, ◌+◌, ◌≤◌, ◌<◌}
use native.Mathlib.Nat.{add-zero}
use native.Mathlib.Numerals.{add-one}
use native.Mathlib.Omega.{arith}
use mathlib.Core.Path.{◌≡◌, refl, sym, ◌∙◌}
use mathlib.Core.Bool.{true}
use mathlib.Core.List.{List}
use borrow.Author.Tests.{not-false}
use lib.ListN.{length, get_or}
use Rattle.model.specs.Bytes.{tabulate}
use Rattle.model.specs.Circuit.{circuit_of, inputs, outputs, gates, gate_at, gate_wire, kind_of, charge, charges, mark_at}
use Rattle.model.specs.Scheme.{record_length}
use Rattle.model.specs.Garbling.{scheme_of}
use Rattle.model.specs.Ending.{ending_of}
use Rattle.model.specs.Material.{last_start, last_bytes, hashed}
use Rattle.model.specs.Refusals.{fine, row_start, row_record_at, row_verdict, last_verdict, material_verdict}
use Rattle.model.proofs.Lists.{tabulate_snoc}
use Rattle.model.proofs.Circuits.{charges_snoc, charge_le}
use Rattle.model.proofs.Verdicts.{then_fine, refuse_fine, first_each}
use Rattle.material.specs.declared.reader.Standing.{Standing}
use Rattle.material.specs.Reader.{standing_at, past_at, found_record}
use Rattle.material.proofs.SizeLaws.{inputs_same, gates_many, code_at_law}
use Rattle.material.proofs.MaterialLaws.{circuit_file}
use Rattle.material.proofs.ReaderLaws.{record_stands, record_found, stands_last}
use Rattle.material.proofs.RecordLaws.{one_charged}
use Rattle.material.proofs.RowLaws.{row_first, row_next, row_end, last_ends, row_room, FileHolds, file_holds}

pub record ReadsOn (c s : List ℕ) : Type 0 where
  -- it begins past the header
  pub start : row_start (circuit_of c) s 0 ≡ 9
  -- the record of a charged gate, with the gate's wire number; past it the next gate's is due
  pub each_gate : (k : ℕ) → k < gates c → charge (kind_of (gate_at c k).code) ≡ 1
      → found_record s (row_start (circuit_of c) s k) ≡ record { standing = Standing.Gate (record { 0 = gate_wire (inputs c) k }); next = row_start (circuit_of c) s (k + 1) }
  -- a gate that is not charged has none, and the reader stays where it is
  pub no_record : (k : ℕ) → k < gates c → charge (kind_of (gate_at c k).code) ≡ 0 → row_start (circuit_of c) s (k + 1) ≡ row_start (circuit_of c) s k
  -- past them all the last record, which has a byte or two hashes for each output after its mark; past it the end
  pub last : found_record s (row_start (circuit_of c) s (gates c)) ≡ record { standing = Standing.Last; next = length s }
  pub last_place : row_start (circuit_of c) s (gates c) ≡ last_start (get_or s 2 0) (charges (circuit_of c).gates)
  pub last_long : row_start (circuit_of c) s (gates c) + 2 + last_bytes (hashed s) (outputs c) ≡ length s

module _ (c s : List ℕ) (e : material_verdict (circuit_of c) s ≡ fine) where
  file : FileHolds c s
  unfolding material_verdict
  file = file_holds c s (circuit_file c s ∙ (then_fine _ _ (then_fine _ _ e).0).0)

  module _ (k : ℕ) (h : k < gates c) (one : charge (kind_of (gate_at c k).code) ≡ 1) where
    is_there : row_record_at s (row_start (circuit_of c) s k) (gate_wire (inputs c) k) ≡ true
    unfolding material_verdict row_verdict
    is_there =
        let each = first_each _ _ k (then_fine _ _ (then_fine _ _ e).0).1 (rw (gates_many c) h) in
        rw (← inputs_same c) (not-false _ (rw (code_at_law c k h, (one_charged (kind_of (gate_at c k).code) (λ none. absurd (omega (arith, one)))).0) at (refuse_fine _ _ _ each)))

    room : row_start (circuit_of c) s k + record_length (scheme_of (get_or s 2 0)) ≤ length s
    room = omega (arith, rw one at (row_room c s file.whole k h))

    stands : standing_at s (row_start (circuit_of c) s k) ≡ Standing.Gate (record { 0 = gate_wire (inputs c) k })
    stands = record_stands s (row_start (circuit_of c) s k) room (gate_wire (inputs c) k) is_there

    past : past_at s (row_start (circuit_of c) s k) ≡ row_start (circuit_of c) s (k + 1)
    past = rw (stands, row_next c s k h, one) (omega arith)

  start_last : row_start (circuit_of c) s (gates c) + 2 + last_bytes (hashed s) (outputs c) ≡ length s
  start_last = rw (row_end c s) (last_ends c s file.whole)

  mark_last : mark_at s (row_start (circuit_of c) s (gates c)) 0x47 (ending_of (hashed s)).last_mark ≡ true
  unfolding material_verdict last_verdict
  mark_last = rw (row_end c s) (not-false _ (refuse_fine _ _ _ (then_fine _ _ (then_fine _ _ e).1).0))

  stands_at_last : standing_at s (row_start (circuit_of c) s (gates c)) ≡ Standing.Last
  stands_at_last = sym (stands_last s (row_start (circuit_of c) s (gates c)) (omega (arith, start_last)) (omega (arith, start_last)) _ refl true (sym mark_last) refl)

  pub reads_on : ReadsOn c s
  reads_on = record {
    start = row_first c s;
    each_gate = λ k h one. record_found _ _ _ _ (stands k h one) (past k h one);
    no_record = λ k h none. rw (row_next c s k h, none) (omega arith);
    last = record_found _ _ _ _ stands_at_last (rw stands_at_last);
    last_place = row_end c s;
    last_long = start_last;
  }

-- ---- the whole way

-- where a reader is that began at the first record and has gone past j records
unfoldable pub gone_to : List ℕ → ℕ → ℕ
gone_to s zero = 9
gone_to s (suc j) = past_at s (gone_to s j)

module _ (c s : List ℕ) (e : material_verdict (circuit_of c) s ≡ fine) where
  one_more : (k j : ℕ) → k < gates c → gone_to s j ≡ row_start (circuit_of c) s k → (x : ℕ) → charge (kind_of (gate_at c k).code) ≡ x → x ≤ 1
      → gone_to s (j + x) ≡ row_start (circuit_of c) s (k + 1)
  unfolding gone_to
  one_more k j h here zero none i = rw add-zero (here ∙ sym ((reads_on c s e).no_record k h none))
  one_more k j h here (suc zero) one i = rw (add-one j, here) (past c s e k h one)
  one_more k j h here (suc (suc x)) two i = absurd (omega arith)

  none_yet : gone_to s (charges (tabulate 0 (gate_at c))) ≡ row_start (circuit_of c) s 0
  unfolding gone_to charges
  none_yet = sym (row_first c s)

  -- past the records of the charged gates before gate k it is where that gate's is due
  pub gone_to_law : (k : ℕ) → k ≤ gates c → gone_to s (charges (tabulate k (gate_at c))) ≡ row_start (circuit_of c) s k
  gone_to_law zero h = none_yet
  gone_to_law (suc k) h =
      rw (tabulate_snoc k (gate_at c), charges_snoc, ← add-one k)
      (one_more k (charges (tabulate k (gate_at c))) (omega arith) (gone_to_law k (omega arith)) (charge (kind_of (gate_at c k).code)) refl (charge_le (kind_of (gate_at c k).code)))

  -- past those of all charged gates and the last record it is at the end
  pub gone_through : gone_to s (charges (circuit_of c).gates + 1) ≡ length s
  unfolding gone_to circuit_of
  gone_through = rw (add-one (charges (tabulate (gates c) (gate_at c))), gone_to_law (gates c) (omega arith), stands_at_last c s e)
