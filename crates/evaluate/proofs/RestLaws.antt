-- The refusals of evaluate and decode: the circuit's, and then the rest; and what it tells that the rest does not refuse. Assumes nothing.
use Prim.Native.Nat.{ℕ, ◌+◌, ◌*◌, ◌≤◌}
use mathlib.Core.Path.{◌≡◌}
use mathlib.Core.List.{List}
use lib.ListN.{length}
use Rattle.model.specs.Circuit.{circuit_of, inputs, outputs, gates}
use Rattle.model.specs.Refusals.{fine, ◌then◌, circuit_verdict, unknown_verdict}
use Rattle.model.specs.Evaluation.{cut}
use Rattle.model.specs.Operations.{evaluate_verdict, decode_verdict}
use Rattle.model.proofs.Verdicts.{then_fine, then_assoc}
use Rattle.model.proofs.Conditions.{tokens_fine, room_fine}
use Rattle.material.proofs.WellFormed.{WellFormed, well_formed}
use Rattle.evaluate.specs.Answers.{rest_verdict}

module _ (c ts s : List ℕ) (room : ℕ) where
  pub evaluate_verdict_law : evaluate_verdict c ts s room ≡ (circuit_verdict c then rest_verdict c (inputs c) ts s (16 * (inputs c + gates c)) room)
  unfolding evaluate_verdict rest_verdict
  evaluate_verdict_law = simp then_assoc

  pub decode_verdict_law : decode_verdict c ts s room ≡ (circuit_verdict c then (rest_verdict c (outputs c) ts s (outputs c) room then unknown_verdict (circuit_of c) (cut (length (circuit_of c).outputs) ts) s))
  unfolding decode_verdict rest_verdict
  decode_verdict_law = simp then_assoc

pub record RestHolds (c : List ℕ) (due : ℕ) (ts s : List ℕ) (bytes room : ℕ) : Type 0 where
  pub tokens : length ts ≡ 16 * due
  pub formed : WellFormed c s
  pub roomy : bytes ≤ room

pub rest_holds : (c : List ℕ) (due : ℕ) (ts s : List ℕ) (bytes room : ℕ) → rest_verdict c due ts s bytes room ≡ fine → RestHolds c due ts s bytes room
unfolding rest_verdict
rest_holds c due ts s bytes room e =
    let a = then_fine _ _ e in
    let b = then_fine _ _ a.0 in
    record { tokens = tokens_fine due ts b.0; formed = well_formed c s b.1; roomy = room_fine bytes room a.1 }
