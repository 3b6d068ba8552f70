-- How long the records of a material are, and where they stand. Assumes nothing.
use Prim.Native.Nat.{ℕ, zero, suc, ◌+◌, ◌*◌, ◌≤◌, ◌<◌}
use native.Mathlib.Nat.{add-mul, mul-le-mul, mul-le-mul_right}
use native.Mathlib.Numerals.{add-one}
use native.Mathlib.Omega.{arith}
use mathlib.Core.Path.{◌≡◌, refl}
use mathlib.Core.Bool.{Bool, true, false, cond}
use mathlib.Core.List.{[], ◌∷◌}
use lib.Dec.{eqb}
use lib.ListN.{get_or}
use Rattle.model.specs.declared.Gate.{Gate}
use Rattle.model.specs.Bytes.{tabulate}
use Rattle.model.specs.Circuit.{kind_of, charge, charges}
use Rattle.model.specs.Scheme.{record_length}
use Rattle.model.specs.Gax.{dual_key, gax}
use Rattle.model.specs.Gaxr.{gaxr}
use Rattle.model.specs.Hashes.{hash_of}
use Rattle.model.specs.HalfGates.{half}
use Rattle.model.specs.Garbling.{Known, scheme_of}
use Rattle.model.specs.Material.{last_start, material_length}
use Rattle.model.proofs.Lists.{tabulate_snoc}
use Rattle.model.proofs.Circuits.{charges_snoc, charges_among}

-- "its r rows (r = 4, 3, 2": under scheme 1, 2 and 3; and under scheme 4 those of scheme 3
pub rows_stored : (scheme : ℕ) → Known scheme → (scheme_of scheme).stored ≡ get_or (0 ∷ 4 ∷ 3 ∷ 2 ∷ 2 ∷ []) scheme 0
unfolding scheme_of gax gaxr half
rows_stored zero h = absurd (omega (arith, h.low))
rows_stored (suc zero) h = refl
rows_stored (suc (suc zero)) h = refl
rows_stored (suc (suc (suc zero))) h = refl
rows_stored (suc (suc (suc (suc zero)))) h = refl
rows_stored (suc (suc (suc (suc (suc k))))) h = absurd (omega (arith, h.high))

module _ (scheme : ℕ) where
  -- ---- 2 to 4 rows, by any scheme byte
  within : (2 ≤ (scheme_of scheme).stored) × ((scheme_of scheme).stored ≤ 4)
  unfolding scheme_of gax gaxr half
  within = go (eqb scheme 1) (eqb scheme 2)
    where
      go : (a b : Bool) → (2 ≤ (cond a (gax dual_key) (cond b (gaxr dual_key) (half (hash_of scheme)))).stored) × ((cond a (gax dual_key) (cond b (gaxr dual_key) (half (hash_of scheme)))).stored ≤ 4)
      go true b = (omega arith, omega arith)
      go false true = (omega arith, omega arith)
      go false false = (omega arith, omega arith)

  pub stored_low : 2 ≤ (scheme_of scheme).stored
  stored_low = within.0

  pub stored_high : (scheme_of scheme).stored ≤ 4
  stored_high = within.1

  pub record_low : 36 ≤ record_length (scheme_of scheme)
  unfolding record_length
  record_low = omega (arith, stored_low)

  pub record_high : record_length (scheme_of scheme) ≤ 68
  unfolding record_length
  record_high = omega (arith, stored_high)

  -- ---- the last record

  -- it has its mark and m bytes, and ends the material
  pub length_last : (m p : ℕ) → material_length scheme m p ≡ last_start scheme p + 2 + m
  unfolding material_length last_start
  length_last m p = omega arith

  -- nothing overflows
  pub last_high : (p : ℕ) → p ≤ 65535 → last_start scheme p ≤ 9 + 65535 * 68
  unfolding last_start
  last_high p h = omega (arith, mul-le-mul h record_high)

  -- ---- the records of the gates f 0, f 1, ..: each would be the last, were the charged gates before it all
  module _ (f : ℕ → Gate) where
    pub start_first : last_start scheme (charges (tabulate 0 f)) ≡ 9
    unfolding last_start charges
    start_first = omega arith

    pub start_next : (k : ℕ) → last_start scheme (charges (tabulate (k + 1) f)) ≡ last_start scheme (charges (tabulate k f)) + charge (kind_of (f k).code) * record_length (scheme_of scheme)
    unfolding last_start
    start_next k = rw (add-one k, tabulate_snoc k f, charges_snoc, add-mul) (omega arith)

    -- the record of one of q gates ends where the last record starts, or before
    pub record_fits : (k q : ℕ) → k < q
        → last_start scheme (charges (tabulate k f)) + charge (kind_of (f k).code) * record_length (scheme_of scheme) ≤ last_start scheme (charges (tabulate q f))
    unfolding last_start
    record_fits k q h = omega (arith, rw add-mul at (mul-le-mul_right (record_length (scheme_of scheme)) (charges_among f k q h)))
