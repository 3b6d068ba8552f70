-- An array that a loop fills from the front, one store a turn, with f 0, f 1, .. Assumes nothing.
use mathlib.Core.Path.{◌≡◌, refl, sym, ◌∙◌}
use mathlib.Core.List.{List, [], ◌∷◌, ◌++◌}
use Prim.Native.Nat.{ℕ, suc, ◌+◌, ◌<◌, ◌≤◌}
use native.Mathlib.Omega.{arith}
use lib.ListN.{length, take, set, length-set}
use lib.Seq.{take_all, take-suc-set}
use Rattle.model.specs.Bytes.{tabulate}
use Rattle.model.proofs.Lists.{filled}

-- what holds of the array r, of n bytes, before turn i of m
pub record Filled (n m : ℕ) (f : ℕ → ℕ) (i : ℕ) (r : List ℕ) : Type 0 where
  pub room : m ≤ n
  pub within : i ≤ m
  pub size : length r ≡ n
  pub so_far : take i r ≡ tabulate i f

module _ {n m : ℕ} {f : ℕ → ℕ} where
  pub fill_start : {r : List ℕ} → m ≤ n → length r ≡ n → Filled n m f 0 r
  fill_start h l = record { room = h; within = omega arith; size = l; so_far = refl }

  pub fill_turn : {i v : ℕ} {r : List ℕ} → Filled n m f i r → v ≡ f i → i < m → Filled n m f (i + 1) (set r i v)
  fill_turn {i} {v} {r} inv e h =
      record { room = inv.room; within = omega arith; size = simp length-set inv.size; so_far = rw e (filled r i f (omega arith) inv.so_far) }

  -- the front that is filled in the end
  pub fill_front : {i : ℕ} {r : List ℕ} → Filled n m f i r → m ≤ i → take m r ≡ tabulate m f
  fill_front {i} {r} inv h =
      let e : m ≡ i = omega (arith, inv.within) in
      rw e inv.so_far

-- an array that is filled whole
pub fill_end : {n : ℕ} {f : ℕ → ℕ} {i : ℕ} {r : List ℕ} → Filled n n f i r → n ≤ i → r ≡ tabulate n f
fill_end {n} {f} {i} {r} inv h = sym (take_all n r (omega arith)) ∙ fill_front inv h

-- the last byte, stored by itself
pub last_store : (r : List ℕ) (m v : ℕ) → length r ≡ suc m → set r m v ≡ take m r ++ (v ∷ [])
last_store r m v h = sym (take_all (suc m) (set r m v) (simp length-set (omega arith))) ∙ take-suc-set r m v (omega arith)
