-- A site and a garbled gate, as the crate's structs, in the model's terms. Document 01, "Scheme 1" to "Scheme 3"; 02, job 7.
use Rattle.std.specs.Prelude.{ℕ, ◌≡◌, List, map, length, take}
use Rattle.model.specs.Aes.{Block, ◌⊕◌, block, cipher}
use Rattle.model.specs.Scheme as Model
use Rattle.model.specs.Gax.{sealed, dual_key}
use Rattle.model.specs.HalfGates.{generator_tweak, evaluator_tweak}
use Rattle.planes.specs.declared.packing.Four.{Four}
use Rattle.planes.specs.Sliced.{IsSliced}
use Rattle.scheme.specs.declared.Site.{Site}
use Rattle.scheme.specs.declared.GarbledGate.{GarbledGate}
use Rattle.scheme.specs.declared.OpenedGate.{OpenedGate}
use Rattle.scheme.specs.declared.cipher.Answers.{Answers}

-- the site that a struct is
unfoldable pub site : Site → Model.Site
site s = record { R = s.r.bytes; fresh = s.fresh.bytes; g = s.g.0; code = s.code; Xa = s.xa.bytes; Xb = s.xb.bytes }

-- r is the scheme's zero token and its rows at the site σ, by as many encryptions as are asked
pub record GarbledIs {L : Type 0} (S : Model.Scheme) (asked : List L) (σ : Model.Site) (r : GarbledGate) : Type 0 where
  pub is_zero : r.zero.bytes ≡ S.zero_token σ
  pub is_rows : take S.stored (map (λ b. b.bytes) r.rows) ≡ S.rows σ
  pub is_calls : r.calls ≡ length asked

-- r is a token, by as many encryptions as are asked
pub record OpenedIs {L : Type 0} (token : Block) (asked : List L) (r : OpenedGate) : Type 0 where
  pub is_token : r.token.bytes ≡ token
  pub is_calls : r.calls ≡ length asked

-- r is x and y, by an encryption each
pub record AnswersAre (x y : Block) (r : Answers) : Type 0 where
  pub is_x : r.x.bytes ≡ x
  pub is_y : r.y.bytes ≡ y
  pub is_calls : r.calls ≡ 2

-- ---- four at once

-- each block of r is that of x enciphered, ⊕ that of x: under a schedule of its own
pub record MaskedUnder (ws : ℕ → List ℕ) (x r : Four) : Type 0 where
  pub is_a : r.a.bytes ≡ cipher (ws 0) x.a.bytes ⊕ x.a.bytes
  pub is_b : r.b.bytes ≡ cipher (ws 1) x.b.bytes ⊕ x.b.bytes
  pub is_c : r.c.bytes ≡ cipher (ws 2) x.c.bytes ⊕ x.c.bytes
  pub is_d : r.d.bytes ≡ cipher (ws 3) x.d.bytes ⊕ x.d.bytes

-- the same under the schedules that k has in planes, whichever these are
abbrev pub Masked : List ℕ → Four → Four → Type 0
Masked k x r = (ws : ℕ → List ℕ) → IsSliced ws k → MaskedUnder ws x r

-- r is E of block 0 for the rows 0 to 3 of schemes 1 and 2
pub record MasksAre (σ : Model.Site) (r : Four) : Type 0 where
  pub is_00 : r.a.bytes ≡ sealed dual_key σ 0 0 (block 0)
  pub is_01 : r.b.bytes ≡ sealed dual_key σ 0 1 (block 0)
  pub is_10 : r.c.bytes ≡ sealed dual_key σ 1 0 (block 0)
  pub is_11 : r.d.bytes ≡ sealed dual_key σ 1 1 (block 0)

-- h is what the hash H makes of A and X under i, of B and Y under j
pub record HashedFour (H : Block → ℕ → Block) (A X : Block) (i : ℕ) (B Y : Block) (j : ℕ) (h : Four) : Type 0 where
  pub is_a : h.a.bytes ≡ H A i
  pub is_b : h.b.bytes ≡ H X i
  pub is_c : h.c.bytes ≡ H B j
  pub is_d : h.d.bytes ≡ H Y j

-- the same of A and A ⊕ R, of B and B ⊕ R, under the tweaks of gate g
abbrev pub HashesAre : (Block → ℕ → Block) → Block → Block → Block → ℕ → Four → Type 0
HashesAre H R A B g h = HashedFour H A (A ⊕ R) (generator_tweak g) B (B ⊕ R) (evaluator_tweak g) h
