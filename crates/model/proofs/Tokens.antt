-- Tokens: what is 16 bytes long, the colours of sums, and an offset of colour 1. Assumes nothing.
use Prim.Native.Nat.{ℕ, zero, suc, ◌+◌, ◌*◌, ◌/◌}
use native.Mathlib.Omega.{arith}
use mathlib.Core.Path.{◌≡◌, refl, sym, ap, ◌∙◌}
use lib.Bits.{differ}
use lib.ListN.{length, get_or, length-set}
use lib.Seq.{get_or-set_same}
use Rattle.model.specs.Bytes.{bytes_of}
use Rattle.model.specs.Aes.{Block, ◌⊕◌, block, times, add_round_key, cipher, aes}
use Rattle.model.specs.Tokens.{Garbling, colour, coloured, distance, run_block, seed_block, offset}
use Rattle.model.proofs.Bits.{Bit, b0, b1, bit_mod, bit_differ, differ_twice}
use Rattle.model.proofs.Xor.{⊕_length, ⊕_zero, xor_odd}
use Rattle.model.proofs.XorRules.{xors, xors_times, zero_⊕, times_0, times_1}

-- ---- lengths

pub block_length : (k : ℕ) → length (block k) ≡ 16
unfolding block bytes_of
block_length k = refl

pub times_length : (b : ℕ) (x : Block) → length x ≡ 16 → length (times b x) ≡ 16
unfolding times
times_length zero x h = block_length 0
times_length (suc b) x h = h

-- whatever the key and the block
pub aes_length : (key s : Block) → length (aes key s) ≡ 16
unfolding aes cipher add_round_key
aes_length key s = ⊕_length _ _

pub seed_block_length : (γ : Garbling) (i : ℕ) → length (seed_block γ i) ≡ 16
unfolding seed_block
seed_block_length γ i = aes_length γ.seed (run_block γ.run i)

-- ---- colours

pub colour_bit : (x : Block) → Bit (colour x)
unfolding colour
colour_bit x = bit_mod (get_or x 15 0)

pub colour_⊕ : (x y : Block) → colour (x ⊕ y) ≡ differ (colour x) (colour y)
unfolding colour ◌⊕◌
colour_⊕ x y = xor_odd (get_or x 15 0) (get_or y 15 0)

pub colour_zero : colour (block 0) ≡ 0
unfolding colour block bytes_of
colour_zero = refl

-- ---- the offset

-- a block of colour 1
pub record Offset (R : Block) : Type 0 where
  pub wide : length R ≡ 16
  pub colour_1 : colour R ≡ 1

coloured_offset : (x : Block) → length x ≡ 16 → Offset (coloured x)
unfolding coloured colour
coloured_offset x h = record {
  wide = length-set x 15 (get_or x 15 0 / 2 * 2 + 1) ∙ h;
  colour_1 = rw (get_or-set_same x 15 (get_or x 15 0 / 2 * 2 + 1) 0 (omega arith)) (omega arith);
}

-- that of a seed is one
pub offset_is : (γ : Garbling) → Offset (offset γ)
unfolding offset
offset_is γ = coloured_offset (seed_block γ 0) (seed_block_length γ 0)

pub offset_not_zero : {R : Block} → Offset R → R ≡ block 0 → ⊥
offset_not_zero o e = omega (arith, sym o.colour_1 ∙ ap colour e ∙ colour_zero)

-- ---- the two tokens of a wire

-- the token for truth value v, where the zero token is x
abbrev pub token_for : Block → Block → ℕ → Block
token_for R x v = x ⊕ times v R

pub token_zero : (R x : Block) → length x ≡ 16 → token_for R x 0 ≡ x
token_zero R x h = rw times_0 (⊕_zero x h)

pub token_one : (R x : Block) → token_for R x 1 ≡ x ⊕ R
token_one R x = rw times_1

-- the token for a sum of truth values
pub token_of_sum : {a b : ℕ} (R x : Block) → Bit a → Bit b → token_for R x (differ a b) ≡ token_for R (token_for R x a) b
token_of_sum R x b0 b0 = simp xors_times
token_of_sum R x b0 b1 = simp xors_times
token_of_sum R x b1 b0 = simp xors_times
token_of_sum R x b1 b1 = simp xors_times

-- the token for v, from that for a
pub token_from : {a v : ℕ} (R x : Block) → Bit a → Bit v → token_for R x v ≡ token_for R (token_for R x a) (differ a v)
token_from R x p q = rw (← token_of_sum R x p (bit_differ p q), differ_twice p q)

times_colour : {R : Block} {v : ℕ} → Offset R → Bit v → colour (times v R) ≡ v
unfolding times
times_colour o b0 = colour_zero
times_colour o b1 = o.colour_1

pub token_colour : {R : Block} {v : ℕ} (x : Block) → Offset R → Bit v → colour (token_for R x v) ≡ differ (colour x) v
token_colour {R} {v} x o h = colour_⊕ x (times v R) ∙ ap (differ (colour x)) (times_colour o h)

-- the distance to the zero token is the truth value times R
pub token_distance : {R : Block} (v : ℕ) (x : Block) → Offset R → distance (token_for R x v) x ≡ times v R
unfolding distance
token_distance {R} v x o = simp xors (zero_⊕ (times v R) (times_length v R o.wide))
