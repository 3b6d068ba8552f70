-- Garble: its refusals, what they tell where none holds, and what it answers and leaves. Assumes nothing.
use Rattle.std.specs.Prelude.{Result, Ok, Err}
use Prim.Native.Nat.{ℕ, ◌≤◌}
use mathlib.Core.Path.{◌≡◌, refl, sym, ◌∙◌}
use mathlib.Core.Bool.{Bool}
use mathlib.Core.List.{List}
use lib.ListN.{length}
use Rattle.model.specs.declared.Sizes.{Sizes}
use Rattle.model.specs.declared.Garbled.{Garbled}
use Rattle.model.specs.declared.Wanted.{Wanted}
use Rattle.model.specs.declared.Refusal.{Refusal}
use Rattle.model.specs.Tokens.{wants_hashes}
use Rattle.model.specs.Material.{last_bytes, material_length}
use Rattle.model.specs.Refusals.{Verdict, fine, refused, ◌then◌, verdict_of, circuit_verdict, room_verdict}
use Rattle.model.specs.Operations.{Answer, no, sizes_of, check_answer, ran_of, file_length, garble_verdict, GarbleIs, answer_of}
use Rattle.model.proofs.Verdicts.{then_fine, then_refused, then_assoc, ran_refused, ran_done}
use Rattle.model.proofs.Conditions.{seed_fine, scheme_fine, room_fine}
use Rattle.circuit.specs.Accepted.{Accepted}
use Rattle.circuit.proofs.AcceptedLaws.{check_refused, check_accepted, left_to_try}
use Rattle.garble.specs.Answers.{length_for, rooms_verdict, garble_arguments}
use Rattle.garble.specs.Whole.{WholeStart, OutcomeIs}

-- 19 for a length that was worked out
pub room_made : (u : Verdict) (l needed room : ℕ) → l ≡ needed → u ≡ room_verdict l room → u ≡ room_verdict needed room
room_made u l needed room e is_u = rw (← e) is_u

-- the circuit's refusals, and then those by its sizes
garble_verdict_law : (c seed : List ℕ) (want : Wanted) (km kz ko : ℕ)
    → garble_verdict c seed want km kz ko ≡ (circuit_verdict c then garble_arguments (sizes_of c) seed want km kz ko)
unfolding garble_verdict garble_arguments rooms_verdict sizes_of length_for file_length
garble_verdict_law c seed want km kz ko = simp then_assoc

-- what it tells that nothing refuses
pub garble_fine : (c seed : List ℕ) (want : Wanted) (m z o : List ℕ) → garble_verdict c seed want (length m) (length z) (length o) ≡ fine
    → WholeStart c seed want (sizes_of c) m z o
unfolding garble_verdict
garble_fine c seed want m z o e =
    let a = then_fine _ _ e in
    let b = then_fine _ _ a.0 in
    let d = then_fine _ _ b.0 in
    let f = then_fine _ _ d.0 in
    let g = then_fine _ _ f.0 in
    let h = then_fine _ _ g.0 in
    record {
      sized = record { accepted = h.0; sizes = refl };
      seed_length = seed_fine seed h.1;
      known = scheme_fine want.scheme f.1;
      file_room = room_fine _ _ d.1;
      wires_room = room_fine _ _ b.1;
      inputs_room = room_fine _ _ a.1;
    }

module _ (c seed : List ℕ) (want : Wanted) (m z o : List ℕ) where
  refused_is : (i x : ℕ) → refused i x ≡ garble_verdict c seed want (length m) (length z) (length o) → GarbleIs c seed want m z o (no (refused i x)) m z o
  unfolding ◌then◌
  refused_is i x e = record { answered = rw (← e); material_left = rw (← e); zeros_left = rw (← e); ones_left = rw (← e) }

  -- check's answer r
  module _ (r : Result Sizes Refusal) (is_r : answer_of r ≡ check_answer c) where
    pub garble_circuit : (f : Refusal) → r ≡ Err f → GarbleIs c seed want m z o (no (verdict_of f)) m z o
    garble_circuit f e = refused_is _ _ (rw garble_verdict_law (then_refused _ _ _ _ (check_refused c r is_r f e)))

    -- and that of what it left to try
    module _ (s : Sizes) (e : r ≡ Ok s) (t : Result Unit Refusal) (is_t : ran_of t ≡ garble_arguments s seed want (length m) (length z) (length o)) where
      known : Accepted c s
      known = check_accepted c r is_r s e

      tried : ran_of t ≡ garble_verdict c seed want (length m) (length z) (length o)
      tried =
          is_t ∙ left_to_try c s known (λ x. garble_arguments x seed want (length m) (length z) (length o))
          ∙ sym (garble_verdict_law c seed want (length m) (length z) (length o))

      pub garble_turned : (f : Refusal) → t ≡ Err f → GarbleIs c seed want m z o (no (verdict_of f)) m z o
      garble_turned f g = refused_is _ _ (ran_refused t _ tried f g)

      module _ (g : t ≡ Ok tt) where
        is_fine : garble_verdict c seed want (length m) (length z) (length o) ≡ fine
        is_fine = sym (ran_done t _ tried g)

        pub garble_go : WholeStart c seed want s m z o
        garble_go = rw known.sizes (garble_fine c seed want m z o is_fine)

        pub garble_done : (r : Answer Garbled) (m' z' o' : List ℕ) → OutcomeIs c seed want m z o r m' z' o' → GarbleIs c seed want m z o r m' z' o'
        unfolding ◌then◌
        garble_done r m' z' o' done = record {
          answered = rw is_fine done.answered;
          material_left = rw is_fine done.material_left;
          zeros_left = rw is_fine done.zeros_left;
          ones_left = rw is_fine done.ones_left;
        }

pub ruleset garble_cases = (garble_circuit, garble_turned, garble_go, garble_done)

-- ---- the material's length, by the mark wanted
pub length_made : (z : Sizes) (want : Wanted) (t : Bool) → t ≡ wants_hashes want → (b l : ℕ) → (b ≡ last_bytes t z.m) × (b ≤ 2097120) → l ≡ material_length want.scheme b z.p
    → l ≡ length_for z want
unfolding length_for
length_made z want t is_t b l is_b is_l = is_l ∙ rw (is_b.0, is_t)
