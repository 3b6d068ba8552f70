-- A garbled gate is what its scheme says: a law for each return of the functions that garble. Assumes nothing.
use mathlib.Core.Path.{◌≡◌, refl, sym, ◌∙◌}
use mathlib.Core.List.{List, [], ◌∷◌}
use Prim.Native.Nat.{ℕ, ◌-◌}
use borrow.Author.Tests.{ne_eqb}
use lib.ListN.{length}
use Rattle.model.specs.Circuit.{charged, kind_of}
use Rattle.model.specs.Aes.{Block, ◌⊕◌, times}
use Rattle.model.specs.Tokens.{colour}
use Rattle.model.specs.Gax.{dual_key, row_at, gax}
use Rattle.model.specs.Gaxr.{reduced_zero, gaxr}
use Rattle.model.specs.HalfGates.{half_a, half_b, row_g, row_e, joined, half_zero, half}
use Rattle.model.specs.Hashes.{hash_of}
use Rattle.model.specs.Garbling.{scheme_of}
use Rattle.model.specs.Calls.{sealings, hashings, garble_asks, garbled_calls}
use Rattle.model.specs.Scheme as Model
use Rattle.block.specs.declared.Block as Blocks
use Rattle.planes.specs.declared.packing.Four.{Four}
use Rattle.scheme.specs.declared.Site.{Site}
use Rattle.scheme.specs.declared.GarbledGate.{GarbledGate}
use Rattle.scheme.specs.Garbled.{site, GarbledIs, HashesAre}

-- ---- the encryptions made, which are as many as are asked

four_sealings : (s : Model.Site) → length (sealings s) ≡ 4
unfolding sealings
four_sealings s = refl

four_hashings : (s : Model.Site) → length (hashings s) ≡ 4
unfolding hashings
four_hashings s = refl

-- ---- GaX and GaXR
module _ (s : Site) (row0 row1 row2 row3 : Blocks.Block) where
  pub gax_garbled : row0.bytes ≡ row_at dual_key (site s) s.fresh.bytes 0 0 → row1.bytes ≡ row_at dual_key (site s) s.fresh.bytes 0 1 →
      row2.bytes ≡ row_at dual_key (site s) s.fresh.bytes 1 0 → row3.bytes ≡ row_at dual_key (site s) s.fresh.bytes 1 1 →
      GarbledIs (gax dual_key) (sealings (site s)) (site s) (record { zero = s.fresh; rows = row0 ∷ row1 ∷ row2 ∷ row3 ∷ []; calls = 4 })
  unfolding gax site
  gax_garbled a b c d = record { is_zero = refl; is_rows = cc; is_calls = sym (four_sealings (site s)) }

  -- row3 is not stored
  pub gaxr_garbled : (zero : Blocks.Block) → zero.bytes ≡ reduced_zero dual_key (site s) → row0.bytes ≡ row_at dual_key (site s) zero.bytes 0 1 →
      row1.bytes ≡ row_at dual_key (site s) zero.bytes 1 0 → row2.bytes ≡ row_at dual_key (site s) zero.bytes 1 1 →
      GarbledIs (gaxr dual_key) (sealings (site s)) (site s) (record { zero = zero; rows = row0 ∷ row1 ∷ row2 ∷ row3 ∷ []; calls = 4 })
  unfolding gaxr
  gaxr_garbled zero z a b c = record { is_zero = z; is_rows = cc; is_calls = sym (four_sealings (site s)) }

-- ---- half-gates: the tokens A and B of a charged gate, over the hash H
module _ (H : Block → ℕ → Block) (s : Site) (u v own : ℕ) (k : kind_of s.code ≡ charged u v own) (a b : Block)
    (is_a : a ≡ s.xa.bytes ⊕ times (1 - u) s.r.bytes) (is_b : b ≡ s.xb.bytes ⊕ times (1 - v) s.r.bytes) where
  half_a_law : a ≡ half_a (site s)
  unfolding half_a site
  half_a_law = rw k is_a

  half_b_law : b ≡ half_b (site s)
  unfolding half_b site
  half_b_law = rw k is_b

  -- its rows, from their hashes: tR is in the first, A in the second
  module _ (h : Four) (is_h : HashesAre H s.r.bytes a b s.g.0 h) (d : ℕ) (is_d : d ≡ colour b) (z : Block) (is_z : z ≡ times d s.r.bytes)
      (rg re : Blocks.Block) (is_g : rg.bytes ≡ h.a.bytes ⊕ h.b.bytes ⊕ z) (is_e : re.bytes ≡ h.c.bytes ⊕ h.d.bytes ⊕ a) where
    row_g_law : rg.bytes ≡ row_g H (site s)
    unfolding row_g site
    row_g_law = rw (← half_a_law, ← half_b_law, ← is_d, ← is_z, ← is_h.is_a, ← is_h.is_b) is_g

    row_e_law : re.bytes ≡ row_e H (site s)
    unfolding row_e site
    row_e_law = rw (← half_a_law, ← half_b_law, ← is_h.is_c, ← is_h.is_d) is_e

    -- what they give together, and the gate's zero token
    pub half_garbled : (x : Block) → x ≡ h.a.bytes ⊕ times (colour a) rg.bytes ⊕ h.c.bytes ⊕ times (colour b) (re.bytes ⊕ a) →
        (zero : Blocks.Block) → zero.bytes ≡ x ⊕ times (1 - own) s.r.bytes → (none : Blocks.Block) →
        GarbledIs (half H) (hashings (site s)) (site s) (record { zero = zero; rows = rg ∷ re ∷ none ∷ none ∷ []; calls = 4 })
    unfolding half half_zero joined site
    half_garbled x is_x zero is_zero none =
        record {
          is_zero = rw (k, ← row_g_law, ← row_e_law, ← half_a_law, ← half_b_law, ← is_h.is_a, ← is_h.is_c, ← is_x) is_zero;
          is_rows = cc (row_g_law, row_e_law);
          is_calls = sym (four_hashings (site s));
        }

-- ---- the scheme of a scheme byte
module _ (scheme : ℕ) (σ : Model.Site) (r : GarbledGate) where
  -- what is asked, and the encryptions for it: two lists of one length
  as_many : {L M : Type 0} {S : Model.Scheme} {l : List L} {m : List M} → GarbledIs S l σ r → length l ≡ length m → GarbledIs S m σ r
  as_many h e = record { is_zero = h.is_zero; is_rows = h.is_rows; is_calls = h.is_calls ∙ e }

  pub scheme_gax : scheme ≡ 1 → GarbledIs (gax dual_key) (sealings σ) σ r → GarbledIs (scheme_of scheme) (garbled_calls scheme σ) σ r
  unfolding scheme_of garbled_calls garble_asks sealings
  scheme_gax e h = rw e (as_many h refl)

  pub scheme_gaxr : scheme ≡ 2 → GarbledIs (gaxr dual_key) (sealings σ) σ r → GarbledIs (scheme_of scheme) (garbled_calls scheme σ) σ r
  unfolding scheme_of garbled_calls garble_asks sealings
  scheme_gaxr e h = rw e (as_many h refl)

  pub scheme_half : (scheme ≡ 1 → ⊥) → (scheme ≡ 2 → ⊥) → GarbledIs (half (hash_of scheme)) (hashings σ) σ r → GarbledIs (scheme_of scheme) (garbled_calls scheme σ) σ r
  unfolding scheme_of garbled_calls garble_asks hashings
  scheme_half p q h = simp (ne_eqb _ _ p, ne_eqb _ _ q) (as_many h refl)

pub ruleset scheme_cases = (scheme_gax, scheme_gaxr, scheme_half)
