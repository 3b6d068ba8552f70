-- The scheme of each scheme byte, and that it is sound, over AES as it is. Assumes nothing.
use Prim.Native.Nat.{ℕ}
use mathlib.Core.Path.{◌≡◌}
use mathlib.Core.Bool.{Bool, true, false, cond}
use borrow.Author.Tests.{ne_eqb}
use lib.Dec.{eqb}
use Rattle.model.specs.Scheme.{Scheme}
use Rattle.model.specs.Gax.{dual_key, gax}
use Rattle.model.specs.Gaxr.{gaxr}
use Rattle.model.specs.Hashes.{hash_of}
use Rattle.model.specs.HalfGates.{half}
use Rattle.model.specs.Garbling.{scheme_of}
use Rattle.model.proofs.Xor.{⊕_length, ⊕_zero}
use Rattle.model.proofs.XorRules.{xors}
use Rattle.model.proofs.Sound.{Sound}
use Rattle.model.proofs.Gax.{Undoes, gax_sound}
use Rattle.model.proofs.Gaxr.{gaxr_sound}
use Rattle.model.proofs.HalfGates.{half_sound}

pub dual_key_undoes : Undoes dual_key
unfolding dual_key
dual_key_undoes = record {
  wide = λ A B T Z. ⊕_length _ _;
  undone = λ A B T Z h. simp xors (⊕_zero Z h);
}

-- which it is
module _ (scheme : ℕ) where
  pub is_gax : scheme ≡ 1 → scheme_of scheme ≡ gax dual_key
  unfolding scheme_of
  is_gax e = rw e

  pub is_gaxr : scheme ≡ 2 → scheme_of scheme ≡ gaxr dual_key
  unfolding scheme_of
  is_gaxr e = rw e

  pub is_half : (scheme ≡ 1 → ⊥) → (scheme ≡ 2 → ⊥) → scheme_of scheme ≡ half (hash_of scheme)
  unfolding scheme_of
  is_half p q = simp (ne_eqb _ _ p, ne_eqb _ _ q)

cond_sound : (b : Bool) (S D : Scheme) → Sound S → Sound D → Sound (cond b S D)
cond_sound true S D s d = s
cond_sound false S D s d = d

-- one line for each scheme, and one for the two of half-gates
pub scheme_sound : (k : ℕ) → Sound (scheme_of k)
unfolding scheme_of
scheme_sound k =
    cond_sound (eqb k 1) _ _ (gax_sound dual_key dual_key_undoes)
    (cond_sound (eqb k 2) _ _ (gaxr_sound dual_key dual_key_undoes)
    (half_sound (hash_of k)))
