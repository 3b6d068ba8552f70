-- Pick: the part that a caller has, refused or not. Assumes nothing.
use Prim.Native.Nat.{ℕ, ◌*◌, ◌-◌}
use mathlib.Core.Path.{◌≡◌, sym}
use mathlib.Core.List.{List}
use Rattle.std.specs.Prelude.{Result, Ok, Err}
use Rattle.model.specs.declared.Refusal.{Refusal}
use Rattle.model.specs.Evaluation.{token_at}
use Rattle.model.specs.Refusals.{fine, verdict_of, pick_verdict}
use Rattle.model.specs.Operations.{no, yes, ran_of, pick_part}
use Rattle.weighhare.specs.Pick.{PickIs}

-- r is the answer of pick's check
module _ (z o : List ℕ) (w b : ℕ) (r : Result Unit Refusal) (is_r : ran_of r ≡ pick_verdict z o w b) where
  pub pick_refused : (f : Refusal) → r ≡ Err f → PickIs z o w b (no (verdict_of f))
  unfolding pick_part
  pick_refused f e =
      let v : verdict_of f ≡ pick_verdict z o w b = rw e at is_r in
      record { answered = simp (← v); picked = simp (← v) }

  pub pick_done : r ≡ Ok tt → PickIs z o w b (yes (record { list = b; start = 16 * (w - 1); length = 16 }))
  unfolding pick_part token_at
  pick_done e =
      let v : pick_verdict z o w b ≡ fine = sym (rw e at is_r) in
      record { answered = simp v; picked = simp v }

pub ruleset pick_cases = (pick_refused, pick_done)
