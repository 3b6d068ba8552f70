-- The row records: a law for each return of `is_row`, `next_record` and `pass_gate`, and the turns and ends of the way over the gates. Assumes nothing.
use Rattle.std.specs.Prelude.{Result, Ok, Err}
use Prim.Native.Nat.{ℕ, ◌+◌, ◌*◌, ◌≤◌, ◌<◌}
use native.Mathlib.Omega.{arith}
use mathlib.Core.Logic.{◌⊎◌, ⊎_elim}
use mathlib.Core.Path.{◌≡◌, refl, sym, ap, ◌∙◌}
use mathlib.Core.Bool.{Bool, true, false, not, ◌&&◌}
use mathlib.Core.List.{List}
use lib.ListN.{length, get_or}
use lib.Dec.{eqb}
use borrow.Author.Tests.{eq-eqb, ne_eqb}
use Rattle.model.specs.declared.Gate.{Gate}
use Rattle.model.specs.declared.AndGate.{AndGate}
use Rattle.model.specs.declared.XorGate.{XorGate}
use Rattle.model.specs.declared.Kind.{Kind}
use Rattle.model.specs.declared.Sizes.{Sizes}
use Rattle.model.specs.declared.Refusal.{Refusal}
use Rattle.model.specs.declared.Wire.{Wire}
use Rattle.model.specs.Circuit as Kinds
use Rattle.model.specs.Circuit.{circuit_of, gates, gate_at, kind_of, charge}
use Rattle.model.specs.Scheme.{record_length}
use Rattle.model.specs.Garbling.{scheme_of}
use Rattle.model.specs.Refusals.{fine, refused, refuse, verdict_of, first_of, is_charged, row_start, row_record_at, row_verdict}
use Rattle.model.specs.Operations.{Answer, no, yes, answer}
use Rattle.model.proofs.Verdicts.{yes_given, Turned, no_turned, first_next, first_found}
use Rattle.circuit.specs.Answers.{meaning}
use Rattle.material.specs.declared.records.Cursor.{Cursor}
use Rattle.material.specs.declared.reader.Standing.{Standing}
use Rattle.material.specs.declared.reader.Record.{Record}
use Rattle.material.specs.Reader.{standing_at, found_record, is_row_of}
use Rattle.material.specs.Answers.{Filed, AtGate, step_of, next_answer, row_answer, records_verdict, records_answer}
use Rattle.model.proofs.Accepted.{gates_inside}
use Rattle.circuit.proofs.AcceptedLaws.{limits, is_n, is_q, few_wires}
use Rattle.material.proofs.SizeLaws.{inputs_same, code_at_law}
use Rattle.material.proofs.ReaderLaws.{is_of, row_record, whole_record, record_stands}
use Rattle.material.proofs.RowLaws.{row_first, row_next, row_end, row_room, filed_holds}

-- ---- is_row: what the reader found
module _ (s : List ℕ) (at due : ℕ) (room : at + 4 ≤ length s) (x : Standing) (is_x : x ≡ standing_at s at) where
  right : is_of due x ≡ row_record_at s at due
  right = rw is_x (row_record s at due room)

  pub row_gate : (w : Wire) → x ≡ Standing.Gate w → eqb w.0 due ≡ row_record_at s at due
  row_gate w e = rw e at right

  pub row_cut : (w : Wire) → x ≡ Standing.Cut w → eqb w.0 due ≡ row_record_at s at due
  row_cut w e = rw e at right

  pub row_last : x ≡ Standing.Last → false ≡ row_record_at s at due
  row_last e = rw e at right

  pub row_nothing : x ≡ Standing.Nothing → false ≡ row_record_at s at due
  row_nothing e = rw e at right

pub ruleset row_cases = (row_gate, row_cut, row_last, row_nothing)

-- ---- next_record: what the reader found
module _ (s : List ℕ) (at due : ℕ) (x : Record) (is_x : x ≡ found_record s at) where
  wrong : is_row_of due x.standing ≡ false → no (refused 17 due) ≡ next_answer s at due
  unfolding refuse
  wrong e = let h : is_row_of due (standing_at s at) ≡ false = rw is_x at e in simp h

  pub next_wire : (w : Wire) → x.standing ≡ Standing.Gate w → (w.0 ≡ due → ⊥) → no (refused 17 due) ≡ next_answer s at due
  next_wire w e n = wrong (rw e (ne_eqb _ _ n))

  pub next_cut : (w : Wire) → x.standing ≡ Standing.Cut w → no (refused 17 due) ≡ next_answer s at due
  next_cut w e = wrong (rw e)

  pub next_last : x.standing ≡ Standing.Last → no (refused 17 due) ≡ next_answer s at due
  next_last e = wrong (rw e)

  pub next_nothing : x.standing ≡ Standing.Nothing → no (refused 17 due) ≡ next_answer s at due
  next_nothing e = wrong (rw e)

  pub next_right : (w : Wire) → x.standing ≡ Standing.Gate w → w.0 ≡ due → yes x.next ≡ next_answer s at due
  unfolding refuse
  next_right w e h =
      let i : is_row_of due x.standing ≡ true = rw e (eq-eqb _ _ h) in
      let j : is_row_of due (standing_at s at) ≡ true = rw is_x at i in
      rw is_x (simp j)

pub ruleset next_cases = (next_wire, next_cut, next_last, next_nothing, next_right)

-- ---- a gate at its turn, by its charge and by whether its record is there

-- past the record of a gate of this code and this wire, if it has one: it is at the index
abbrev pub pass_answer : List ℕ → ℕ → ℕ → ℕ → Answer ℕ
pass_answer s at code due =
    answer (refuse (is_charged (kind_of code) && not (row_record_at s at due)) 17 due) (at + charge (kind_of code) * record_length (scheme_of (get_or s 2 0)))

none_charged : (k : Kinds.Kind) → charge k ≡ 0 → is_charged k ≡ false
none_charged (Kinds.charged u v x) e = absurd (omega arith)
none_charged (Kinds.free p q c) e = refl
none_charged Kinds.refused e = refl

pub one_charged : (k : Kinds.Kind) → (charge k ≡ 0 → ⊥) → (is_charged k ≡ true) × (charge k ≡ 1)
one_charged (Kinds.charged u v x) e = (refl, refl)
one_charged (Kinds.free p q c) e = absurd (e refl)
one_charged Kinds.refused e = absurd (e refl)

module _ (s : List ℕ) (at code due : ℕ) where
  pub answer_free : charge (kind_of code) ≡ 0 → yes at ≡ pass_answer s at code due
  unfolding refuse
  answer_free e = let none : at ≡ at + 0 * record_length (scheme_of (get_or s 2 0)) = omega arith in rw (none_charged (kind_of code) e, e) (ap yes none)

  module _ (e : charge (kind_of code) ≡ 0 → ⊥) where
    pub answer_wrong : row_record_at s at due ≡ false → no (refused 17 due) ≡ pass_answer s at code due
    unfolding refuse
    answer_wrong h = let k = one_charged (kind_of code) e in rw (k.0, h)

    pub answer_right : row_record_at s at due ≡ true → (there : ℕ) → there ≡ at + record_length (scheme_of (get_or s 2 0)) → yes there ≡ pass_answer s at code due
    unfolding refuse
    answer_right h there f =
        let k = one_charged (kind_of code) e in
        let whole : at + record_length (scheme_of (get_or s 2 0)) ≡ at + 1 * record_length (scheme_of (get_or s 2 0)) = omega arith in
        rw (k.0, k.1, h, f) (ap yes whole)

    -- as the reader finds it, where its rows lie within the material
    pub answer_read : at + record_length (scheme_of (get_or s 2 0)) ≤ length s → next_answer s at due ≡ pass_answer s at code due
    unfolding refuse
    answer_read room = go (row_record_at s at due) refl
      where
        go : (b : Bool) → row_record_at s at due ≡ b → next_answer s at due ≡ pass_answer s at code due
        go true h = simp (record_stands s at room due h, eq-eqb due due refl) (answer_right h (at + record_length (scheme_of (get_or s 2 0))) refl)
        go false h = let i : is_row_of due (standing_at s at) ≡ false = whole_record s at room due ∙ h in simp i (answer_wrong h)

-- ---- pass_gate
module _ (c : List ℕ) (z : Sizes) (s : List ℕ) (k at : ℕ) (turn : AtGate c z s k at) where
  inside : k < gates c
  inside = omega (arith, turn.more, is_q c z turn.known.circuit)

  pub gate_inside : 8 + 7 * k + 7 ≤ length c
  gate_inside = omega (arith, gates_inside c (limits c z turn.known.circuit), inside)

  -- gate k as it was read
  module _ (g : Gate) (is_g : g ≡ gate_at c k) where
    pub gate_passed : (r : Result Cursor Refusal) → step_of r ≡ pass_answer s at g.code (z.n + k + 1) → step_of r ≡ row_answer c s k
    gate_passed r is-r =
        let after : row_start (circuit_of c) s (k + 1) ≡ at + charge (kind_of g.code) * record_length (scheme_of (get_or s 2 0)) = rw (row_next c s k inside, ← is_g, turn.placed) in
        rw (at_gate, after) is-r
      where
        at_gate : row_verdict (circuit_of c) s k ≡ refuse (is_charged (kind_of g.code) && not (row_record_at s at (z.n + k + 1))) 17 (z.n + k + 1)
        at_gate = unfold row_verdict in simp (code_at_law c k inside, ← is_g, ← turn.placed, inputs_same, is_n c z turn.known.circuit)

    -- its code's kind as it was read
    module _ (kind : Kind) (is_kind : meaning kind ≡ kind_of g.code) where
      passed : charge (meaning kind) ≡ 0 → yes at ≡ row_answer c s k
      passed e = gate_passed (Ok (record { at = at })) (answer_free s at g.code (z.n + k + 1) (rw is_kind at e))

      pub gate_free : (f : XorGate) → kind ≡ Kind.Free f → yes at ≡ row_answer c s k
      gate_free f e = passed (rw e)

      pub gate_refused : kind ≡ Kind.Refused → yes at ≡ row_answer c s k
      gate_refused e = passed (rw e)

      pub gate_charged : (a : AndGate) → kind ≡ Kind.Charged a → (r : Result Cursor Refusal) → step_of r ≡ next_answer s at (z.n + k + 1) → step_of r ≡ row_answer c s k
      gate_charged a e r is-r = gate_passed r (is-r ∙ answer_read s at g.code (z.n + k + 1) (λ none. absurd (omega (arith, one))) (omega (arith, room)))
        where
          one : charge (kind_of g.code) ≡ 1
          one = rw (← is_kind, e)

          room : at + 1 * record_length (scheme_of (get_or s 2 0)) ≤ length s
          room = rw (← one, turn.placed, is_g) (omega (arith, row_room c s (filed_holds c z s turn.known).whole k inside))

      pub gate_uncharged : ((f : XorGate) × (kind ≡ Kind.Free f)) ⊎ (kind ≡ Kind.Refused) → yes at ≡ row_answer c s k
      gate_uncharged e = ⊎_elim (λ f. gate_free f.0 f.1) gate_refused e

pub ruleset gate_cases = (gate_uncharged, gate_charged)

-- ---- check_records: of q gates k have no fault, and the next record is at the cursor
pub record Reading (c s : List ℕ) (q k : ℕ) (here : Cursor) : Type 0 where
  pub within : k ≤ q
  pub no_fault : first_of (row_verdict (circuit_of c) s) k ≡ fine
  pub placed : here.at ≡ row_start (circuit_of c) s k

module _ (c : List ℕ) (z : Sizes) (s : List ℕ) (known : Filed c z s) where
  pub records_start : (here : Cursor) → here.at ≡ 9 → Reading c s z.q 0 here
  unfolding first_of
  records_start here e = record { within = omega arith; no_fault = refl; placed = e ∙ sym (row_first c s) }

  module _ (k : ℕ) (here : Cursor) (inv : Reading c s z.q k here) where
    pub records_end : z.q ≤ k → yes here.at ≡ records_answer c s
    records_end h =
        let w = inv.within in
        let e : gates c ≡ k = omega (arith, is_q c z known.circuit) in
        rw (← row_end c s, e, inv.no_fault, inv.placed)

    module _ (more : k < z.q) where
      pub at_turn : AtGate c z s k here.at
      at_turn = record { known = known; more = more; few = omega (arith, few_wires c z known.circuit); placed = inv.placed }

      -- what was found at the gate
      module _ (r : Result Cursor Refusal) (is-r : step_of r ≡ row_answer c s k) where
        pub turn_next : (there : Cursor) → r ≡ Ok there → Reading c s z.q (k + 1) there
        turn_next there e =
            let t = yes_given (row_verdict (circuit_of c) s k) there.at (row_start (circuit_of c) s (k + 1)) (rw e at is-r) in
            record { within = omega arith; no_fault = first_next _ k inv.no_fault t.is_fine; placed = t.is_result }

        pub turn_fault : (f : Refusal) → r ≡ Err f → verdict_of f ≡ records_verdict c s
        turn_fault f e = go (no_turned (row_verdict (circuit_of c) s k) (verdict_of f) _ (rw e at is-r))
          where
            go : Turned (row_verdict (circuit_of c) s k) (verdict_of f) → verdict_of f ≡ records_verdict c s
            go t =
                let h : k < gates c = omega (arith, is_q c z known.circuit) in
                rw (first_found (row_verdict (circuit_of c) s) k (gates c) t.number t.place inv.no_fault h t.is_v, t.is_w)

        pub records_fault : (f : Refusal) → r ≡ Err f → no (verdict_of f) ≡ records_answer c s
        records_fault f e = rw (← turn_fault f e)

pub ruleset records_cases = (records_start, records_end, at_turn, turn_next, records_fault)
