-- A circuit of another mark than 43 49 is refused as it was, and is the circuit that it was. Assumes nothing.
use Prim.Native.Nat.{ℕ}
use mathlib.Core.Path.{◌≡◌, refl}
use mathlib.Core.Bool.{false}
use mathlib.Core.List.{List}
use borrow.Author.Tests.{eqb-true, not-false}
use lib.ListN.{get_or}
use Rattle.model.specs.Circuit.{circuit_of, kind_of, mark_at, inputs, gates, named, most_outputs, sizes_hold, circuit_length}
use Rattle.model.specs.Refusals.{fine, head_verdict, gate_verdict, record_verdict, outputs_verdict, circuit_verdict}
use Rattle.model.specs.Kept.{sizes_hold01, head_verdict01, gate_verdict_by, record_verdict_by, circuit_verdict_by, OldMark}
use Rattle.model.proofs.Accepted.{accepted_header}
use Rattle.model.proofs.Outputs as O
use Rattle.model.proofs.Verdicts.{then_fine, refuse_fine, and_both, first_same, or_false, then_nothing}

-- mark 43 48 is another
pub not_named : (s : List ℕ) → head_verdict01 s ≡ fine → named s ≡ false
unfolding head_verdict01 named mark_at
not_named s e =
    let mark = and_both _ _ (not-false _ (refuse_fine _ _ _ (then_fine _ _ (then_fine _ _ (then_fine _ _ e).0).0).1)) in
    let first : get_or s 0 0 ≡ 0x43 = eqb-true _ _ mark.0 in
    let second : get_or s 1 0 ≡ 0x48 = eqb-true _ _ mark.1 in
    rw (first, second)

module _ (s : List ℕ) (e : named s ≡ false) where
  pub head_same : head_verdict s ≡ head_verdict01 s
  unfolding head_verdict head_verdict01 sizes_hold sizes_hold01 most_outputs circuit_length
  head_same = rw (e, or_false (mark_at s 0 0x43 0x48))

  pub old_mark : OldMark s
  unfolding circuit_verdict circuit_verdict_by outputs_verdict record_verdict record_verdict_by gate_verdict gate_verdict_by circuit_of
  old_mark = record {
    refusals = rw (e, head_same, then_nothing, first_same (record_verdict s (inputs s)) (record_verdict_by kind_of s (inputs s)) (gates s) (λ k h. refl));
    circuit = rw e;
    last_tokens = λ accepted ws long. O.last_tokens s e (accepted_header s accepted).sizes.m_high ws long;
  }
