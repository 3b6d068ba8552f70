-- The search over the gate records: its invariant, its turns and its ends. Assumes nothing.
use Rattle.std.specs.Prelude.{Result, Ok, Err}
use Rattle.model.specs.Operations.{answer_of}
use Prim.Native.Nat.{ℕ, ◌+◌, ◌≤◌, ◌<◌}
use native.Mathlib.Numerals.{add-one}
use native.Mathlib.Omega.{arith}
use mathlib.Core.Path.{◌≡◌, refl}
use mathlib.Core.List.{List}
use mir.Syntax.{w64}
use mir.Val.{Fits}
use Rattle.model.specs.declared.Refusal.{Refusal}
use Rattle.model.specs.Bytes.{tabulate}
use Rattle.model.specs.Circuit.{kind_of, charge, charges, gate_at}
use Rattle.model.specs.Refusals.{fine, verdict_of, first_of, record_verdict, gates_verdict}
use Rattle.model.specs.Operations.{no, yes}
use Rattle.model.proofs.Lists.{tabulate_snoc}
use Rattle.model.proofs.Circuits.{charge_le, charges_snoc}
use Rattle.model.proofs.Verdicts.{Given, yes_given, no_turned, Turned, first_next, first_found}
use Rattle.circuit.specs.Answers.{record_answer, search_answer}

-- k gates have no fault, and p of them are charged
pub record Searching (s : List ℕ) (n q k p : ℕ) : Type 0 where
  pub within : k ≤ q
  pub at_most : p ≤ k
  pub no_fault : gates_verdict s n k ≡ fine
  pub counted : p ≡ charges (tabulate k (gate_at s))

pub search_start : (s : List ℕ) (n q : ℕ) → Searching s n q 0 0
unfolding first_of charges
search_start s n q = record { within = omega arith; at_most = omega arith; no_fault = refl; counted = refl }

module _ (s : List ℕ) (n q k p : ℕ) (inv : Searching s n q k p) where
  pub search_end : q ≤ k → yes p ≡ search_answer s n q
  search_end h =
      let w = inv.within in
      let e : q ≡ k = omega arith in
      rw (e, inv.no_fault, inv.counted)

  module _ (r : Result ℕ Refusal) (is-r : answer_of r ≡ record_answer s n k) (more : k < q) where
    -- p' is the count after the gate
    fine_gate : (a : ℕ) → r ≡ Ok a → Given (record_verdict s n k) a (charge (kind_of (gate_at s k).code))
    fine_gate a e = yes_given (record_verdict s n k) a (charge (kind_of (gate_at s k).code)) (rw e at is-r)

    at_most_one : (a : ℕ) → r ≡ Ok a → a ≤ 1
    at_most_one a e = rw (fine_gate a e).is_result (charge_le (kind_of (gate_at s k).code))

    pub turn_counts : n + q ≤ 65535 → (a : ℕ) → r ≡ Ok a → Fits w64 (p + a)
    turn_counts few a e = omega (arith, at_most_one a e, inv.at_most, more)

    pub turn_fine : (a p' : ℕ) → r ≡ Ok a → p' ≡ p + a → Searching s n q (k + 1) p'
    turn_fine a p' e f =
        let g = fine_gate a e in
        let m = inv.at_most in
        let small = at_most_one a e in
        record {
          within = omega arith;
          at_most = omega arith;
          no_fault = first_next _ k inv.no_fault g.is_fine;
          counted = rw (add-one, tabulate_snoc k (gate_at s), charges_snoc, f, inv.counted, g.is_result);
        }

    pub turn_fault : (f : Refusal) → r ≡ Err f → no (verdict_of f) ≡ search_answer s n q
    turn_fault f e = go (no_turned (record_verdict s n k) (verdict_of f) _ (rw e at is-r))
      where
        go : Turned (record_verdict s n k) (verdict_of f) → no (verdict_of f) ≡ search_answer s n q
        go t = rw (first_found (record_verdict s n) k q t.number t.place inv.no_fault more t.is_v, t.is_w)

pub ruleset search_cases = (search_start, search_end, turn_counts, turn_fine, turn_fault)
