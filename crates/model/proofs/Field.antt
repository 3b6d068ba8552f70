-- The product of a byte and its `inverse` is 1, and the inverse of that is the byte: the definition by a power is the inverse. Computed once
-- over the bytes. Assumes nothing.
use mathlib.Core.Bool.{Bool, true, false, ◌||◌}
use mathlib.Core.Path.{◌≡◌, subst}
use mathlib.Core.List.{List}
use Prim.Native.Nat.{ℕ, ◌<◌}
use native.Mathlib.Omega.{arith}
use borrow.Author.Tests.{ne_eqb}
use lib.Dec.{T, eqb, eqb→eq}
use Rattle.model.specs.Bytes.{tabulate}
use Rattle.model.specs.Aes.{xtime, mul_bits, gmul, squares, inverse}
use Rattle.model.proofs.Lists.{entry}
use Rattle.model.proofs.Table.{both, both_left, both_right, every, at}

inverses : List ℕ
inverses = tabulate 256 inverse

-- of a byte a whose inverse is x
undone : ℕ → ℕ → Bool
undone a x = both (eqb a 0 || eqb (gmul a x) 1) (eqb (inverse x) a)

all_undone : T (every undone 0 inverses)
unfolding undone inverses xtime mul_bits gmul squares inverse
all_undone = tt

undone_at : (a : ℕ) → a < 256 → T (undone a (inverse a))
unfolding inverses
undone_at a h = subst (λ (x : ℕ). T (undone a x)) (entry 0 256 inverse a h) (at undone inverses all_undone a h)

or_right : (b c : Bool) → b ≡ false → T (b || c) → T c
or_right true c e t = absurd (let z : ◌≡◌ {A = ℕ} 0 1 = cc in omega arith)
or_right false c e t = t

pub inverse_undoes : (a : ℕ) → 0 < a → a < 256 → gmul a (inverse a) ≡ 1
unfolding undone
inverse_undoes a l h =
    let product = eqb (gmul a (inverse a)) 1 in
    eqb→eq (gmul a (inverse a)) 1
    (or_right (eqb a 0) product (ne_eqb a 0 (λ e. omega arith)) (both_left (eqb a 0 || product) (eqb (inverse (inverse a)) a) (undone_at a h)))

pub inverse_twice : (a : ℕ) → a < 256 → inverse (inverse a) ≡ a
unfolding undone
inverse_twice a h =
    eqb→eq (inverse (inverse a)) a (both_right (eqb a 0 || eqb (gmul a (inverse a)) 1) (eqb (inverse (inverse a)) a) (undone_at a h))
