-- A refusal's number and place, whichever case it is. Assumes nothing.
use Prim.Native.Nat.{ℕ}
use mathlib.Core.Path.{◌≡◌, sym, ap, ◌∙◌}
use Rattle.model.specs.declared.Refusal.{Refusal}
use Rattle.model.specs.Refusals.{number_of, place_of}
use Rattle.circuit.specs.Answers.{TurnedIs}

pub named : (f g : Refusal) (number place : ℕ) → f ≡ g → (number ≡ number_of g) × (place ≡ place_of g) → TurnedIs f number place
named f g number place e is = record { is_number = is.0 ∙ sym (ap number_of e); is_place = is.1 ∙ sym (ap place_of e) }
