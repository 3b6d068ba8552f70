-- Pick: what the answer of its check tells, and a law for each return. Assumes nothing.
use Rattle.std.specs.Prelude.{Result, Ok, Err, is_err}
use Prim.Native.Nat.{ℕ, ◌+◌, ◌*◌, ◌-◌, ◌%◌, ◌≤◌}
use native.Mathlib.Omega.{arith}
use mathlib.Core.Path.{◌≡◌, sym, ◌∙◌}
use mathlib.Core.List.{List, []}
use mathlib.Core.Bool.{Bool, true, false, not, ◌&&◌, true≢false}
use borrow.Author.Tests.{eq-eqb, ne_eqb, leb-true, eqb-true, not-false}
use denote.Ref.{Bor}
use lib.ListN.{length, take, drop}
use lib.Dec.{leb, eqb}
use Rattle.model.specs.declared.Refusal.{Refusal}
use Rattle.model.specs.Evaluation.{token_at}
use Rattle.model.specs.Refusals.{fine, refuse, verdict_of, pick_verdict}
use Rattle.model.specs.Operations.{ran_of, pick_part}
use Rattle.model.proofs.Verdicts.{then_fine, refuse_fine, and_both}
use Rattle.garble.specs.Pick.{place_in, PartIs}

-- ---- pick: r is the answer of its check
module _ (zs os : Bor (List ℕ)) (w b : ℕ) (r : Result Unit Refusal) (is_r : ran_of r ≡ pick_verdict zs.now os.now w b) (t : Bool) (is_t : t ≡ is_err r) where
  module _ (e : t ≡ false) where
    is_fine : pick_verdict zs.now os.now w b ≡ fine
    is_fine = go r is_r (sym is_t ∙ e)
      where
        go : (x : Result Unit Refusal) → ran_of x ≡ pick_verdict zs.now os.now w b → is_err x ≡ false → pick_verdict zs.now os.now w b ≡ fine
        go (Ok _) v n = sym v
        go (Err _) v n = absurd (true≢false n)

    -- the lengths, and the wire
    told : (refuse (not (eqb (length zs.now) (length os.now) && eqb (length zs.now % 16) 0)) 11 (length zs.now) ≡ fine) × (refuse (not (leb 1 w && leb (16 * w) (length zs.now))) 20 w ≡ fine)
    unfolding pick_verdict
    told = let a = then_fine _ _ is_fine in let d = then_fine _ _ a.0 in (d.1, a.1)

    same : length zs.now ≡ length os.now
    same = eqb-true _ _ (and_both _ (eqb (length zs.now % 16) 0) (not-false _ (refuse_fine _ _ _ told.0))).0

    pub pick_from : 1 ≤ w
    pick_from = leb-true _ _ (and_both _ (leb (16 * w) (length zs.now)) (not-false _ (refuse_fine _ _ _ told.1))).0

    inside : 16 * w ≤ length zs.now
    inside = leb-true _ _ (and_both (leb 1 w) _ (not-false _ (refuse_fine _ _ _ told.1))).1

    pub pick_end_zeros : 16 * (w - 1) + 16 ≤ length zs.now
    pick_end_zeros = omega (arith, inside, pick_from)

    pub pick_end_ones : 16 * (w - 1) + 16 ≤ length os.now
    pick_end_ones = omega (arith, inside, pick_from, same)

    sixteen : (16 * (w - 1) + 16) - 16 * (w - 1) ≡ 16
    sixteen = omega arith

    -- the part as it was made: its place, and its bytes
    module _ (part : Bor (List ℕ)) where
      pub picked_zero : b ≡ 0 → part.ref_ptr ≡ place_in zs (16 * (w - 1))
          → part.now ≡ take ((16 * (w - 1) + 16) - 16 * (w - 1)) (drop (16 * (w - 1)) zs.now) → PartIs zs os w b part
      unfolding pick_part token_at
      picked_zero h place bytes = record { bytes = bytes ∙ simp (is_fine, eq-eqb _ _ h, sixteen); place = λ _. place ∙ simp (eq-eqb _ _ h) }

      pub picked_one : (b ≡ 0 → ⊥) → part.ref_ptr ≡ place_in os (16 * (w - 1))
          → part.now ≡ take ((16 * (w - 1) + 16) - 16 * (w - 1)) (drop (16 * (w - 1)) os.now) → PartIs zs os w b part
      unfolding pick_part token_at
      picked_one h place bytes = record { bytes = bytes ∙ simp (is_fine, ne_eqb _ _ h, sixteen); place = λ _. place ∙ simp (ne_eqb _ _ h) }

  pub picked_none : t ≡ true → (part : Bor (List ℕ)) → part.now ≡ [] → PartIs zs os w b part
  unfolding pick_part
  picked_none e part none = go r is_r (sym is_t ∙ e)
    where
      refuses : (f : Refusal) → verdict_of f ≡ fine → ⊥
      refuses f h = let z : ◌≡◌ {A = ℕ} 0 1 = cc in omega arith

      go : (x : Result Unit Refusal) → ran_of x ≡ pick_verdict zs.now os.now w b → is_err x ≡ true → PartIs zs os w b part
      go (Ok _) v y = absurd (true≢false (sym y))
      go (Err f) v y = record { bytes = none ∙ simp (← v); place = λ h. absurd (refuses f (v ∙ h)) }

pub ruleset pick_cases = (pick_from, pick_end_zeros, pick_end_ones, picked_zero, picked_one, picked_none)
