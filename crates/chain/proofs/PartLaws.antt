-- A part of a buffer whose front was written. Assumes nothing.
use Prim.Native.Nat.{ℕ, ◌+◌, ◌*◌, ◌-◌, ◌≤◌}
use native.Mathlib.Omega.{arith}
use mathlib.Core.Path.{◌≡◌}
use mathlib.Core.List.{List}
use lib.ListN.{length, take, drop, length-append, length-drop}
use lib.Seq.{take_at, take-append-le, drop-append-le}
use Rattle.model.specs.Bytes.{over}
use Rattle.model.specs.Evaluation.{token_at}

-- ---- a buffer with new bytes x at its front
module _ (x y : List ℕ) where
  pub over_long : length y ≤ length (over x y)
  unfolding over
  over_long = simp (length-append, length-drop) (omega arith)

  pub whole_front : (a : ℕ) → length x ≡ a → take a (over x y) ≡ x
  unfolding over
  whole_front a e = take_at x _ a e

  pub front_part : (a : ℕ) → a ≤ length x → take a (over x y) ≡ take a x
  unfolding over
  front_part a h = take-append-le a x _ h

  pub inner_part : (a d : ℕ) → d + a ≤ length x → take a (drop d (over x y)) ≡ take a (drop d x)
  unfolding over
  inner_part a d h = rw (drop-append-le d x (drop (length x) y) (omega arith)) (take-append-le a (drop d x) _ (rw length-drop (omega arith)))

  pub token_over : (w : ℕ) → 1 ≤ w → 16 * w ≤ length x → token_at (over x y) w ≡ token_at x w
  unfolding token_at
  token_over w l h = inner_part 16 (16 * (w - 1)) (omega arith)
