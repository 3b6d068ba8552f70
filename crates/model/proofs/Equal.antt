-- Lists of bytes that are the same. Assumes nothing.
use Prim.Native.Nat.{ℕ}
use native.Mathlib.Omega.{arith}
use mathlib.Core.Logic.{◌↔◌}
use mathlib.Core.Path.{◌≡◌, refl, sym, ap₂, ◌∙◌}
use mathlib.Core.Bool.{Bool, true, false}
use mathlib.Core.List.{List, [], ◌∷◌}
use borrow.Author.Tests.{eqb-true, eq-eqb}
use Rattle.model.specs.Bytes.{equal_bytes}
use Rattle.model.proofs.Verdicts.{and_both}

pub equal_self : (a : List ℕ) → equal_bytes a a ≡ true
unfolding equal_bytes
equal_self [] = refl
equal_self (x ∷ xs) = rw (eq-eqb x x refl, equal_self xs)

pub equal_true : (a b : List ℕ) → equal_bytes a b ≡ true → a ≡ b
unfolding equal_bytes
equal_true [] [] e = refl
equal_true [] (y ∷ ys) e = absurd (let z : ◌≡◌ {A = ℕ} 0 1 = cc in omega arith)
equal_true (x ∷ xs) [] e = absurd (let z : ◌≡◌ {A = ℕ} 0 1 = cc in omega arith)
equal_true (x ∷ xs) (y ∷ ys) e = let h = and_both _ _ e in ap₂ ◌∷◌ (eqb-true x y h.0) (equal_true xs ys h.1)

-- yes exactly where they are the same
pub equal_exactly : (a b : List ℕ) → (equal_bytes a b ≡ true) ↔ (a ≡ b)
equal_exactly a b = (equal_true a b, λ e. rw e (equal_self b))

pub unequal : (a b : List ℕ) → (a ≡ b → ⊥) → equal_bytes a b ≡ false
unequal a b h = go (equal_bytes a b) refl
  where
    go : (t : Bool) → equal_bytes a b ≡ t → t ≡ false
    go true e = absurd (h (equal_true a b e))
    go false e = refl

pub not_equal : (a b : List ℕ) → equal_bytes a b ≡ false → a ≡ b → ⊥
not_equal a b e f = let h : equal_bytes a b ≡ true = rw f (equal_self b) in let z : ◌≡◌ {A = ℕ} 0 1 = (let t : ◌≡◌ {A = Bool} true false = sym h ∙ e in cc) in omega arith
