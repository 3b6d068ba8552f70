-- Evaluate: its refusals, what they tell where none holds, and what it leaves. Assumes nothing.
use Rattle.std.specs.Prelude.{Result, Ok, Err}
use Prim.Native.Nat.{ℕ, ◌+◌, ◌*◌}
use native.Mathlib.Omega.{arith}
use mathlib.Core.Path.{◌≡◌, sym, ◌∙◌}
use mathlib.Core.List.{List}
use lib.ListN.{length}
use mir.Syntax.{w64}
use mir.Val.{Fits}
use Rattle.model.specs.declared.Sizes.{Sizes}
use Rattle.model.specs.declared.Refusal.{Refusal}
use Rattle.model.specs.Refusals.{fine, refused, verdict_of}
use Rattle.model.specs.Operations.{no, yes, sizes_of, check_answer, ran_of, evaluate_verdict, EvaluateIs, answer_of}
use Rattle.model.proofs.Verdicts.{then_fine, then_refused, ran_refused, ran_done}
use Rattle.circuit.specs.Accepted.{Accepted}
use Rattle.circuit.proofs.AcceptedLaws.{check_refused, check_accepted, check_bounded, left_to_try, is_n, is_q}
use Rattle.evaluate.specs.Answers.{rest_verdict}
use Rattle.evaluate.specs.Walk.{WiresStart, WiresAre}
use Rattle.evaluate.proofs.RestLaws.{rest_holds, evaluate_verdict_law}

module _ (c ts s o : List ℕ) where
  -- nothing refuses
  module _ (is_fine : evaluate_verdict c ts s (length o) ≡ fine) where
    pub evaluate_fine : (z : Sizes) → Accepted c z → WiresStart c ts s z.n z.q o
    evaluate_fine z known =
        let holds = rest_holds c _ ts s _ _ (then_fine _ _ (rw (evaluate_verdict_law c ts s (length o)) at is_fine)).1 in
        record {
          tokens = rw (is_n c z known) holds.tokens;
          walk = record {
            accepted = known.accepted;
            is_n = is_n c z known;
            is_q = is_q c z known;
            known = holds.formed.known;
            whole = holds.formed.whole;
            room = rw (is_n c z known, is_q c z known) holds.roomy;
          };
        }

    pub evaluate_made : (k : ℕ) (x : List ℕ) → WiresAre c ts s o k x → EvaluateIs c ts s o (yes k) x
    evaluate_made k x is = record { answered = rw (is_fine, is.calls_made); left = rw is_fine is.left }

  refused_is : (i x : ℕ) → refused i x ≡ evaluate_verdict c ts s (length o) → EvaluateIs c ts s o (no (refused i x)) o
  refused_is i x e = record { answered = rw (← e); left = rw (← e) }

  -- check's answer r
  module _ (r : Result Sizes Refusal) (is_r : answer_of r ≡ check_answer c) where
    pub evaluate_circuit : (f : Refusal) → r ≡ Err f → EvaluateIs c ts s o (no (verdict_of f)) o
    evaluate_circuit f e = refused_is _ _ (rw evaluate_verdict_law (then_refused _ _ _ _ (check_refused c r is_r f e)))

    module _ (z : Sizes) (e : r ≡ Ok z) where
      known : Accepted c z
      known = check_accepted c r is_r z e

      pub wires_fit : Fits w64 (z.n + z.q)
      wires_fit = omega (arith, (check_bounded c r is_r z e).wires)

      pub bytes_fit : Fits w64 (16 * (z.n + z.q))
      bytes_fit = omega (arith, (check_bounded c r is_r z e).wires)

      -- and that of what it left to try
      module _ (t : Result Unit Refusal) (is_t : ran_of t ≡ rest_verdict c z.n ts s (16 * (z.n + z.q)) (length o)) where
        tried : ran_of t ≡ evaluate_verdict c ts s (length o)
        unfolding sizes_of
        tried =
            is_t ∙ left_to_try c z known (λ x. rest_verdict c x.n ts s (16 * (x.n + x.q)) (length o))
            ∙ sym (evaluate_verdict_law c ts s (length o))

        pub evaluate_turned : (f : Refusal) → t ≡ Err f → EvaluateIs c ts s o (no (verdict_of f)) o
        evaluate_turned f g = refused_is _ _ (ran_refused t _ tried f g)

        module _ (g : t ≡ Ok tt) where
          pub evaluate_start : WiresStart c ts s z.n z.q o
          evaluate_start = evaluate_fine (sym (ran_done t _ tried g)) z known

          pub evaluate_done : (k : ℕ) (x : List ℕ) → WiresAre c ts s o k x → EvaluateIs c ts s o (yes k) x
          evaluate_done k x is = evaluate_made (sym (ran_done t _ tried g)) k x is

pub ruleset evaluate_cases = (evaluate_circuit, wires_fit, bytes_fit, evaluate_turned, evaluate_start, evaluate_done)
