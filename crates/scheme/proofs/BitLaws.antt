-- Bits: a block under a mask, and colours, which are 0 or 1. Assumes nothing.
use mathlib.Core.Path.{◌≡◌, ap₂, ◌∙◌}
use Prim.Native.Nat.{ℕ, zero, suc, ◌+◌, ◌*◌, ◌^◌, ◌≤◌, ◌<◌}
use native.Mathlib.Omega.{arith}
use lib.Bits.{bit_and, and_mask, and_zero_r}
use Rattle.model.specs.Bytes.{bytes_of}
use Rattle.model.specs.Aes.{Block, block, times}
use Rattle.model.specs.Tokens.{colour}
use Rattle.model.proofs.Bits.{bit_small}
use Rattle.model.proofs.Tokens.{colour_bit}
use Rattle.block.proofs.Words.{halves}

-- a bit times a block, whose halves are x and y: each under a mask
pub masked : (bit x y : ℕ) → bit ≤ 1 → x < 2 ^ 64 → y < 2 ^ 64 → halves (bit_and x (bit * 0xFFFFFFFFFFFFFFFF)) (bit_and y (bit * 0xFFFFFFFFFFFFFFFF)) ≡ times bit (halves x y)
unfolding times block bytes_of
masked zero x y h hx hy = ap₂ halves (and_zero_r x) (and_zero_r y)
masked (suc zero) x y h hx hy = ap₂ halves (and_mask x 64 ∙ omega arith) (and_mask y 64 ∙ omega arith)
masked (suc (suc bit)) x y h hx hy = absurd (omega arith)

-- the colour d of a token x
pub colour_low : (x : Block) (d : ℕ) → d ≡ colour x → d ≤ 1
colour_low x d is_d = rw is_d (bit_small (colour_bit x))

-- the number of a row, from the colours c and d of two tokens
pub row_number : (a b : Block) (c d i : ℕ) → i ≡ 2 * c + d → c ≡ colour a → d ≡ colour b → i ≡ 2 * colour a + colour b
row_number a b c d i is_i is_c is_d = rw (is_i, is_c, is_d)
