-- What check's answer tells, and the sizes of an accepted circuit: they are the header's numbers, and none is above 65,535. Assumes nothing.
use Rattle.std.specs.Prelude.{Result, Ok, Err}
use Prim.Native.Nat.{ℕ, ◌+◌, ◌≤◌}
use native.Mathlib.Omega.{arith}
use mathlib.Core.Path.{◌≡◌, ap}
use mathlib.Core.List.{List}
use Rattle.model.specs.declared.Refusal.{Refusal}
use Rattle.model.specs.declared.Sizes.{Sizes}
use Rattle.model.specs.Bytes.{tabulate}
use Rattle.model.specs.Circuit.{circuit_of, inputs, outputs, gates, gate_at, charges}
use Rattle.model.specs.Refusals.{Verdict, ◌then◌, verdict_of, circuit_verdict}
use Rattle.model.specs.Operations.{sizes_of, check_answer, answer_of}
use Rattle.model.proofs.Lists.{tabulate_length}
use Rattle.model.proofs.Circuits.{charges_le}
use Rattle.model.proofs.Verdicts.{yes_given, no_given}
use Rattle.model.proofs.Accepted.{HeaderHolds, accepted_header}
use Rattle.circuit.specs.Accepted.{Accepted, Bounded}

-- ---- check's answer r
module _ (c : List ℕ) (r : Result Sizes Refusal) (is-r : answer_of r ≡ check_answer c) where
  pub check_refused : (f : Refusal) → r ≡ Err f → verdict_of f ≡ circuit_verdict c
  check_refused f e = no_given (circuit_verdict c) (verdict_of f) (sizes_of c) (rw e at is-r)

  pub check_accepted : (z : Sizes) → r ≡ Ok z → Accepted c z
  check_accepted z e =
      let t = yes_given (circuit_verdict c) z (sizes_of c) (rw e at is-r) in
      record { accepted = t.is_fine; sizes = t.is_result }

-- ---- an accepted circuit
module _ (c : List ℕ) (z : Sizes) (known : Accepted c z) where
  pub limits : HeaderHolds c
  limits = accepted_header c known.accepted

  pub is_n : z.n ≡ inputs c
  unfolding sizes_of
  is_n = ap (λ (x : Sizes). x.n) known.sizes

  pub is_m : z.m ≡ outputs c
  unfolding sizes_of
  is_m = ap (λ (x : Sizes). x.m) known.sizes

  pub is_q : z.q ≡ gates c
  unfolding sizes_of
  is_q = ap (λ (x : Sizes). x.q) known.sizes

  pub is_p : z.p ≡ charges (circuit_of c).gates
  unfolding sizes_of
  is_p = ap (λ (x : Sizes). x.p) known.sizes

  pub few_wires : z.n + z.q ≤ 65535
  few_wires = rw (is_n, is_q) limits.sizes.sum

  pub few_outputs : z.m ≤ 65535
  few_outputs = omega (arith, is_m, limits.sizes.m_high, limits.sizes.sum)

  pub few_charges : z.p ≤ 65535
  unfolding circuit_of
  few_charges = omega (arith, is_p, charges_le (tabulate (gates c) (gate_at c)), tabulate_length (gates c) (gate_at c), limits.sizes.sum)

  pub bounded : Bounded z
  bounded = record { wires = few_wires; outputs = few_outputs; charged = few_charges }

  -- the refusals by these sizes are all that is left to try
  pub left_to_try : (w : Sizes → Verdict) → w z ≡ (circuit_verdict c then w (sizes_of c))
  unfolding ◌then◌
  left_to_try w = rw (known.accepted, known.sizes)

-- as check gives them
module _ (c : List ℕ) (r : Result Sizes Refusal) (is-r : answer_of r ≡ check_answer c) (z : Sizes) (e : r ≡ Ok z) where
  pub check_bounded : Bounded z
  check_bounded = bounded c z (check_accepted c r is-r z e)

  pub check_outputs : z.m ≤ 65535
  check_outputs = check_bounded.outputs

  pub check_charges : z.p ≤ 65535
  check_charges = check_bounded.charged
