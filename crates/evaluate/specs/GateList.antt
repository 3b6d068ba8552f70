-- Evaluation over a list of gate records: what its passes start from and find. Document 01, "Circuit" and "Operations".
-- c are the bytes that n, m and the records make, s the material.
use Rattle.std.specs.Prelude.{ℕ, zero, suc, ◌+◌, ◌*◌, ◌-◌, ◌≤◌, ◌<◌, ◌≡◌, true, false, not, cond, ◌&&◌, List, Option, None, Some, leb, eqb, length, get_or}
use Rattle.model.specs.declared.Gate.{Gate}
use Rattle.model.specs.declared.Sizes.{Sizes}
use Rattle.model.specs.Bytes.{tabulate}
use Rattle.model.specs.Circuit.{inputs, gate_at, kind_of, charge, charges, sizes_hold}
use Rattle.model.specs.Scheme.{record_length}
use Rattle.model.specs.Garbling.{scheme_of}
use Rattle.model.specs.Refusals.{Verdict, refuse, gates_verdict, is_charged, row_record_at}
use Rattle.model.specs.Operations.{Answer, answer}
use Rattle.circuit.specs.Accepted.{Accepted}
use Rattle.material.specs.declared.records.Cursor.{Cursor}
use Rattle.material.specs.Answers.{Filed}
use Rattle.evaluate.specs.declared.list.Tried.{Tried}

-- ---- before the first pass

-- 3: "more than 65,535 records", or sizes that break a limit
abbrev pub limits_verdict : ℕ → ℕ → ℕ → Verdict
limits_verdict n m q = refuse (not (leb q 65535 && sizes_hold false n m q)) 3 2

abbrev pub limits_answer : ℕ → ℕ → ℕ → Answer Sizes
limits_answer n m q = answer (limits_verdict n m q) (record { n = n; m = m; q = q; p = 0 })

-- sizes within the limits, of so many records
pub record ListStart (z : Sizes) (gs : List Gate) : Type 0 where
  pub n_fits : z.n ≤ 65535
  pub m_fits : z.m ≤ 65535
  pub is_q : z.q ≡ length gs
  pub few : length gs ≤ 65535
  pub hold : sizes_hold false z.n z.m z.q ≡ true

-- ---- pass 0: where the next row record is due, if each one so far was right

-- the bytes of a row record
abbrev pub stride : List ℕ → ℕ
stride s = record_length (scheme_of (get_or s 2 0))

-- past the row record of a gate of charge x: for a charged one exactly if it stands there, with its mark and the wire number that is due
unfoldable pub row_passed : List ℕ → ℕ → ℕ → ℕ → Option Cursor → Option Cursor
row_passed s bytes x due None = None
row_passed s bytes x due (Some here) =
    cond (eqb x 0) (Some here) (cond (leb (here.at + 4) (length s) && row_record_at s here.at due) (Some (record { at = here.at + bytes })) None)

-- the place past it is one of the machine's
abbrev pub CursorFits : ℕ → Option Cursor → Type 0
CursorFits bytes here = (at : Cursor) → here ≡ Some at → at.at + bytes < 18446744073709551616

-- past those of k gates
unfoldable pub rows_seen : List ℕ → List ℕ → ℕ → Option Cursor
rows_seen c s zero = Some (record { at = 9 })
rows_seen c s (suc k) = row_passed s (stride s) (charge (kind_of (gate_at c k).code)) (inputs c + k + 1) (rows_seen c s k)

-- the first fault of q gates; else how many are charged, and where the row record of the last is due
abbrev pub tried_answer : List ℕ → List ℕ → ℕ → Answer Tried
tried_answer c s q = answer (gates_verdict c (inputs c) q) (record { charged = charges (tabulate q (gate_at c)); last = rows_seen c s (q - 1) })

-- ---- pass 1

-- the circuit is accepted, and this is what pass 0 saw of its row records
pub record ListSeen (c : List ℕ) (z : Sizes) (s : List ℕ) (last : Option Cursor) : Type 0 where
  pub known : Accepted c z
  pub is_last : last ≡ rows_seen c s (z.q - 1)

-- and the material's header and length are right
pub record RowsSeen (c : List ℕ) (z : Sizes) (s : List ℕ) (last : Option Cursor) : Type 0 where
  pub known : Filed c z s
  pub is_last : last ≡ rows_seen c s (z.q - 1)

-- it starts at the last of q gates if the row records before it were right, and else at the first
pub record StartsAt (q : ℕ) (last : Option Cursor) (k : ℕ) (here : Cursor) : Type 0 where
  pub at_last : (at : Cursor) → last ≡ Some at → (k ≡ q - 1) × (here ≡ at)
  pub at_first : last ≡ None → (k ≡ 0) × (here.at ≡ 9)

-- where the gate's row record is due, if it has one, there is one and the two bytes of a mark
pub record RowRoom (s : List ℕ) (at bytes code : ℕ) : Type 0 where
  pub is_bytes : bytes ≡ stride s
  pub room : at + charge (kind_of code) * bytes + 2 ≤ length s

-- past the row record of a gate of this code and this wire, if it has one; or 17
abbrev pub pass_answer : List ℕ → ℕ → ℕ → ℕ → Answer ℕ
pass_answer s at code due = answer (refuse (is_charged (kind_of code) && not (row_record_at s at due)) 17 due) (at + charge (kind_of code) * stride s)
