-- The lengths of a material: a law for each return and each count that could overflow. Assumes nothing.
use Prim.Native.Nat.{ℕ, ◌+◌, ◌*◌, ◌≤◌}
use native.Mathlib.Nat.{mul-le-mul}
use native.Mathlib.Omega.{arith}
use mathlib.Core.Path.{◌≡◌, sym}
use mir.Syntax.{w64}
use mir.Val.{Fits}
use Rattle.model.specs.Scheme.{record_length}
use Rattle.model.specs.Garbling.{scheme_of}
use Rattle.model.specs.Material.{last_start, material_length}
use Rattle.model.proofs.Places.{length_last}

-- record_length, of the rows as they were counted
pub record_made : (scheme r : ℕ) → r ≡ (scheme_of scheme).stored → 4 + 16 * r ≡ record_length (scheme_of scheme)
unfolding record_length
record_made scheme r e = rw e

-- last_start, of a record's bytes as they were counted
module _ (scheme p r : ℕ) (few : p ≤ 65535) (is_r : r ≡ record_length (scheme_of scheme)) (small : r ≤ 68) where
  records_few : p * r ≤ 65535 * 68
  records_few = mul-le-mul few small

  pub records_fit : Fits w64 (p * r)
  records_fit = omega (arith, records_few)

  pub place_fits : Fits w64 (9 + p * r)
  place_fits = omega (arith, records_few)

  pub place_made : 9 + p * r ≡ last_start scheme p
  unfolding last_start
  place_made = rw is_r

  pub place_small : 9 + p * r ≤ 4456389
  place_small = omega (arith, records_few)

pub ruleset start_cases = (records_fit, place_fits, place_made, place_small)

-- material_length, of the last record's place
pub length_made : (scheme m p x : ℕ) → x ≡ last_start scheme p → x + 2 + m ≡ material_length scheme m p
length_made scheme m p x e = rw e (sym (length_last scheme m p))
