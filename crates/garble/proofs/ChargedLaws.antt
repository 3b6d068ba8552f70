-- A charged gate in the buffers. Assumes nothing.
use Prim.Native.Nat.{ℕ}
use native.Mathlib.Omega.{arith}
use mathlib.Core.Path.{◌≡◌, refl, sym, ◌∙◌}
use mathlib.Core.List.{List}
use mathlib.Core.Bool.{Bool, true, false, cond}
use borrow.Author.Tests.{ne_eqb, eqb-true, eqb-false}
use lib.Dec.{eqb}
use Rattle.model.specs.Bytes.{put}
use Rattle.model.specs.Aes.{Block}
use Rattle.model.specs.Circuit.{charged, charge, kind_of}
use Rattle.model.specs.Scheme as Model
use Rattle.model.specs.Gax.{dual_key, value_at, sealed, row_at}
use Rattle.model.specs.Gaxr.{reduced_zero, gaxr}
use Rattle.model.specs.Hashes.{hash_of}
use Rattle.model.specs.HalfGates.{half_a, half_b, row_g, row_e, joined, half_zero, half}
use Rattle.model.specs.Garbling.{scheme_of}
use Rattle.model.specs.Calls.{garbled_calls}
use Rattle.model.proofs.Calls.{garbled_four}
use Rattle.model.proofs.Places.{stored_high}
use Rattle.block.specs.declared.Block as Struct
use Rattle.scheme.specs.Garbled.{site, GarbledIs}
use Rattle.scheme.specs.declared.Site.{Site}
use Rattle.scheme.specs.declared.GarbledGate.{GarbledGate}
use Rattle.garble.specs.declared.gate.GateIn.{GateIn}
use Rattle.garble.specs.declared.plan.Plan.{Plan}
use Rattle.garble.specs.Held.{FreshIs}
use Rattle.garble.specs.Walk.{WriterRoom, written_record, site_at, ChargedStart, ChargedIs}

-- ---- two sites that differ in `fresh` alone

refreshed : Block → Model.Site → Model.Site
refreshed f s = record { R = s.R; fresh = f; g = s.g; code = s.code; Xa = s.Xa; Xb = s.Xb }

gaxr_zero : (f : Block) (s : Model.Site) → (gaxr dual_key).zero_token (refreshed f s) ≡ (gaxr dual_key).zero_token s
unfolding gaxr reduced_zero sealed value_at refreshed
gaxr_zero f s = refl

gaxr_rows : (f : Block) (s : Model.Site) → (gaxr dual_key).rows (refreshed f s) ≡ (gaxr dual_key).rows s
unfolding gaxr reduced_zero row_at sealed value_at refreshed
gaxr_rows f s = refl

half_zero_law : (H : Block → ℕ → Block) (f : Block) (s : Model.Site) → (half H).zero_token (refreshed f s) ≡ (half H).zero_token s
unfolding half half_zero joined row_g row_e half_a half_b refreshed
half_zero_law H f s = refl

half_rows : (H : Block → ℕ → Block) (f : Block) (s : Model.Site) → (half H).rows (refreshed f s) ≡ (half H).rows s
unfolding half row_g row_e half_a half_b refreshed
half_rows H f s = refl

-- a scheme other than GaX has no use for it
module _ (k : ℕ) (h : k ≡ 1 → ⊥) (f : Block) (s : Model.Site) where
  other_zero : (scheme_of k).zero_token (refreshed f s) ≡ (scheme_of k).zero_token s
  unfolding scheme_of
  other_zero = rw (ne_eqb k 1 h) (go (eqb k 2))
    where
      go : (b : Bool) → (cond b (gaxr dual_key) (half (hash_of k))).zero_token (refreshed f s) ≡ (cond b (gaxr dual_key) (half (hash_of k))).zero_token s
      go true = gaxr_zero f s
      go false = half_zero_law (hash_of k) f s

  other_rows : (scheme_of k).rows (refreshed f s) ≡ (scheme_of k).rows s
  unfolding scheme_of
  other_rows = rw (ne_eqb k 1 h) (go (eqb k 2))
    where
      go : (b : Bool) → (cond b (gaxr dual_key) (half (hash_of k))).rows (refreshed f s) ≡ (cond b (gaxr dual_key) (half (hash_of k))).rows s
      go true = gaxr_rows f s
      go false = half_rows (hash_of k) f s

-- a gate garbled by scheme k as a site says
abbrev Made : ℕ → Model.Site → GarbledGate → Type 0
Made k s made = GarbledIs (scheme_of k) (garbled_calls k s) s made

-- what was garbled with the block that scheme 1 asks for is garbled as the site says
module _ (p : Plan) (f : Block) (g : GateIn) (made : GarbledGate) (u v x : ℕ) (is_charged_kind : kind_of g.code ≡ charged u v x)
    (fresh : FreshIs p.seed.key.bytes p.wanted g.code g.own.0 f) (is : Made p.wanted.scheme (refreshed f (site_at p g)) made) where
  one_charge : charge (kind_of g.code) ≡ 1
  one_charge = rw is_charged_kind

  of_gax : p.wanted.scheme ≡ 1 → Made p.wanted.scheme (site_at p g) made
  unfolding refreshed site_at
  of_gax e = rw (fresh.if_gax e one_charge) at is

  of_other : (p.wanted.scheme ≡ 1 → ⊥) → Made p.wanted.scheme (site_at p g) made
  of_other h =
      let k = p.wanted.scheme in
      record {
        is_zero = is.is_zero ∙ other_zero k h f (site_at p g);
        is_rows = is.is_rows ∙ other_rows k h f (site_at p g);
        is_calls = is.is_calls ∙ garbled_four k (refreshed f (site_at p g)) ∙ sym (garbled_four k (site_at p g));
      }

  gate_is : Made p.wanted.scheme (site_at p g) made
  gate_is = go (eqb p.wanted.scheme 1) refl
    where
      go : (b : Bool) → eqb p.wanted.scheme 1 ≡ b → Made p.wanted.scheme (site_at p g) made
      go true e = of_gax (eqb-true p.wanted.scheme 1 e)
      go false e = of_other (eqb-false p.wanted.scheme 1 e)

-- ---- GateIn::garbled: at the gate g, by the plan p
pub make_done : (p : Plan) (f : Struct.Block) (g : GateIn) (made : GarbledGate) (u v x : ℕ) → kind_of g.code ≡ charged u v x
    → FreshIs p.seed.key.bytes p.wanted g.code g.own.0 f.bytes
    → (let s : Site = record { r = p.r; fresh = f; g = g.own; code = g.code; xa = g.xa; xb = g.xb } in Made p.wanted.scheme (site s) made)
    → Made p.wanted.scheme (site_at p g) made
unfolding site
make_done p f g made u v x k fresh is = gate_is p f.bytes g made u v x k fresh (unfold refreshed site_at in is)

-- ---- garble_charged

module _ (scheme stored code u v x : ℕ) (m : List ℕ) (at : ℕ) (z : List ℕ) (slot : ℕ) (start : ChargedStart scheme stored code u v x m at z slot) where
  pub charged_record : WriterRoom at stored m
  unfolding Model.record_length
  charged_record = record {
    high = omega (arith, start.is_stored, stored_high scheme);
    room = rw start.is_stored (omega (arith, start.record_room));
  }

  pub charged_done : (p : Plan) (g : GateIn) (made : GarbledGate) → Made scheme (site_at p g) made
      → (m' z' : List ℕ) → z' ≡ put z slot made.zero.bytes → m' ≡ put m at (written_record g.own.0 stored made)
      → ChargedIs scheme (site_at p g) m at z slot m' z' made.calls
  charged_done p g made is m' z' is_z is_m = record {
    zeros_left = rw is.is_zero at is_z;
    material_left = is_m ∙ unfold written_record site_at in (rw (start.is_stored, is.is_rows));
    calls_made = is.is_calls;
  }
