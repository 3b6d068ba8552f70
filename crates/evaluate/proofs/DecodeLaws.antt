-- Decode: its refusals, what they tell where none holds, and what it leaves. Assumes nothing.
use Rattle.std.specs.Prelude.{Result, Ok, Err}
use Prim.Native.Nat.{ℕ, ◌≤◌, ◌<◌}
use native.Mathlib.Omega.{arith}
use mathlib.Core.Path.{◌≡◌, sym, ap₂, ◌∙◌}
use mathlib.Core.Bool.{Bool, true, false}
use mathlib.Core.List.{List}
use lib.ListN.{length}
use Rattle.model.specs.declared.Sizes.{Sizes}
use Rattle.model.specs.declared.Refusal.{Refusal}
use Rattle.model.specs.Circuit.{circuit_of, outputs}
use Rattle.model.specs.Ending.{hashes, ending_of}
use Rattle.model.specs.Material.{hashed, last_bytes}
use Rattle.model.specs.Evaluation.{cut, stored_at, decode, decode_bytes}
use Rattle.model.specs.Refusals.{Verdict, refused, ◌then◌, first_of, verdict_of, token_verdict, unknown_verdict}
use Rattle.model.specs.Operations.{written, sizes_of, check_answer, ran_of, decode_verdict, DecodeIs, answer_of}
use Rattle.model.proofs.Lists.{from_cong}
use Rattle.model.proofs.Outputs.{outputs_many}
use Rattle.model.proofs.Blocks.{cut_at}
use Rattle.model.proofs.OldEnding.{colours_bytes}
use Rattle.model.proofs.Verdicts.{then_refused, then_done, first_same, ran_refused, ran_done}
use Rattle.circuit.specs.Accepted.{Accepted}
use Rattle.circuit.proofs.AcceptedLaws.{check_refused, check_accepted, left_to_try, is_m, few_outputs}
use Rattle.evaluate.specs.Answers.{rest_verdict}
use Rattle.evaluate.specs.Last.{known_verdict, bits_of, BitsStart, stored_start, MarkedBits}
use Rattle.evaluate.proofs.RestLaws.{RestHolds, rest_holds, decode_verdict_law}

-- ---- what is found in the bytes is what the model says
module _ (c ts s : List ℕ) (m : ℕ) (is_m : length (circuit_of c).outputs ≡ m) where
  known_is : (i : ℕ) → i < m → known_verdict (ending_of (hashed s)) ts s (stored_start s m) i ≡ token_verdict (circuit_of c) (cut m ts) s i
  unfolding known_verdict token_verdict stored_at stored_start
  known_is i h = rw (is_m, cut_at m i ts h)

  verdict_is : first_of (known_verdict (ending_of (hashed s)) ts s (stored_start s m)) m ≡ unknown_verdict (circuit_of c) (cut (length (circuit_of c).outputs) ts) s
  unfolding unknown_verdict
  verdict_is = rw is_m (first_same _ _ m known_is)

  bits_are : bits_of (ending_of (hashed s)) ts s (stored_start s m) m ≡ decode_bytes (circuit_of c) ts s
  unfolding bits_of decode_bytes decode stored_at stored_start
  bits_are = rw is_m (from_cong 0 m _ _ (λ i h. rw (cut_at m i ts (omega (arith, h)))))

module _ (c ts s o : List ℕ) where
  refused_is : (i x : ℕ) → refused i x ≡ decode_verdict c ts s (length o) → DecodeIs c ts s o (refused i x) o
  refused_is i x e = record { answered = e; left = rw (← e) }

  -- check's answer r
  module _ (r : Result Sizes Refusal) (is_r : answer_of r ≡ check_answer c) where
    pub decode_circuit : (f : Refusal) → r ≡ Err f → DecodeIs c ts s o (verdict_of f) o
    decode_circuit f e = refused_is _ _ (rw decode_verdict_law (then_refused _ _ _ _ (check_refused c r is_r f e)))

    -- and that of what it left to try
    module _ (z : Sizes) (e : r ≡ Ok z) (t : Result Unit Refusal) (is_t : ran_of t ≡ rest_verdict c z.m ts s z.m (length o)) where
      known : Accepted c z
      known = check_accepted c r is_r z e

      m : z.m ≡ outputs c
      m = is_m c z known

      rest : (rest_verdict c z.m ts s z.m (length o) then first_of (known_verdict (ending_of (hashed s)) ts s (stored_start s z.m)) z.m) ≡ decode_verdict c ts s (length o)
      unfolding sizes_of
      rest =
          left_to_try c z known (λ x. (rest_verdict c x.m ts s x.m (length o) then first_of (known_verdict (ending_of (hashed s)) ts s (stored_start s x.m)) x.m))
          ∙ rw (verdict_is c ts s (outputs c) (outputs_many c)) (sym (decode_verdict_law c ts s (length o)))

      pub decode_turned : (f : Refusal) → t ≡ Err f → DecodeIs c ts s o (verdict_of f) o
      decode_turned f g = refused_is _ _ (then_refused _ _ _ _ (ran_refused t _ is_t f g) ∙ rest)

      module _ (g : t ≡ Ok tt) where
        holds : RestHolds c z.m ts s z.m (length o)
        holds = rest_holds c _ ts s _ _ (sym (ran_done t _ is_t g))

        inside : (b : Bool) → hashed s ≡ b → last_bytes b z.m ≤ length s
        inside b e = rw (← e, m) holds.formed.last_inside

        pub decode_start : BitsStart z.m ts s o
        unfolding last_bytes ending_of hashes
        decode_start = record {
          few = few_outputs c z known;
          tokens = holds.tokens;
          by_colours = λ b. record { tokens = holds.tokens; inside = rw (colours_bytes z.m) at (inside false b); bits = rw m (holds.formed.last_bits b); room = holds.roomy };
          by_hashes = λ b. inside true b;
          room = holds.roomy;
        }

        pub decode_done : (v : Verdict) (x : List ℕ) → MarkedBits z.m ts s o v x → DecodeIs c ts s o v x
        decode_done v x done =
            let is_v : v ≡ decode_verdict c ts s (length o) = then_done v _ _ (ran_done t _ is_t g) done.answered ∙ rest in
            record {
              answered = is_v;
              left = done.left ∙ ap₂ (λ (w : Verdict) (y : List ℕ). written w y o) is_v (bits_are c ts s z.m (outputs_many c ∙ sym m));
            }

pub ruleset decode_cases = (decode_circuit, decode_turned, decode_start, decode_done)
