-- Products by {02} and {03} in GF(2^8), and the bytes of a mixed column as sums of them (FIPS 197, §4.2 and §5.1.3). Assumes nothing.
use mathlib.Core.Path.{◌≡◌, refl, sym, ap, ap₂, ◌∙◌}
use Prim.Native.Nat.{ℕ, ◌+◌, ◌*◌, ◌/◌, ◌%◌, ◌^◌, ◌<◌}
use native.Mathlib.Nat.{add-zero, zero-mul, one-mul}
use native.Mathlib.Omega.{arith}
use lib.Bits.{bit_xor, xor_self, xor_block, xor_zero_r, xor_comm, xor_lt, xor_shr}
use Rattle.model.specs.Aes.{xtime, mul_bits, gmul, mix_byte}
use Rattle.model.proofs.Bits.{Bit, b0, b1, bit_of}
use Rattle.model.proofs.XorRules.{sums}

-- ---- products

-- the bit shifted out and the 1 of hex 11B cancel each other
pub shifted : (b : ℕ) → b < 256 → bit_xor (b * 2 % 256) (b / 128 * 0x1B) ≡ xtime b
unfolding xtime
shifted b h =
    let q : ℕ = b / 128 in
    let e : b * 2 ≡ q * 2 ^ 8 + b * 2 % 256 = omega arith in
    let f : q * 0x11B ≡ q * 2 ^ 8 + q * 0x1B = omega arith in
    let g : bit_xor q q * 2 ^ 8 ≡ 0 = rw xor_self in
    sym (ap₂ bit_xor e f ∙ xor_block 8 q q (b * 2 % 256) (q * 0x1B) (omega arith) (omega arith) ∙ omega (arith, g))

pub xtime_byte : (b : ℕ) → b < 256 → xtime b < 256
xtime_byte b h = rw (← shifted b h) (xor_lt 8 (b * 2 % 256) (b / 128 * 0x1B) (omega arith) (omega arith))

-- a sum of two bits times hex 11B
carried : {u v : ℕ} → Bit u → Bit v → bit_xor u v * 0x11B ≡ bit_xor (u * 0x11B) (v * 0x11B)
carried b0 b0 = refl
carried b0 b1 = refl
carried b1 b0 = refl
carried b1 b1 = refl

-- the product of a sum by {02} is the sum of the products
pub xtime_sum : (a b : ℕ) → a < 256 → b < 256 → xtime (bit_xor a b) ≡ bit_xor (xtime a) (xtime b)
unfolding xtime
xtime_sum a b h k =
    let low : bit_xor (a * 2) (b * 2) ≡ bit_xor a b * 2 = rw (add-zero (a * 2), add-zero (b * 2), add-zero (bit_xor a b * 2)) at (xor_block 1 a b 0 0 (omega arith) (omega arith)) in
    let high : bit_xor a b / 128 * 0x11B ≡ bit_xor (a / 128 * 0x11B) (b / 128 * 0x11B) =
    ap (λ (x : ℕ). x * 0x11B) (xor_shr a b 7) ∙ carried (bit_of (a / 128) (omega arith)) (bit_of (b / 128) (omega arith)) in
    rw (← low, high) (simp sums)

two : (a : ℕ) → gmul a 0x02 ≡ xtime a
unfolding gmul mul_bits
two a = simp (zero-mul, one-mul, xor_zero_r)

three : (a : ℕ) → gmul a 0x03 ≡ bit_xor (xtime a) a
unfolding gmul mul_bits
three a = simp (zero-mul, one-mul, xor_zero_r, xor_comm)

-- ---- a byte of a mixed column

pub mixed : (a b c d p q : ℕ) → p ≡ xtime a → q ≡ xtime b → bit_xor (bit_xor (bit_xor p (bit_xor q b)) c) d ≡ mix_byte a b c d
unfolding mix_byte
mixed a b c d p q e f = cc (two a, three b)

-- as a sum
pub mix_sum : (a b c d : ℕ) → mix_byte a b c d ≡ bit_xor (bit_xor (bit_xor (xtime a) (bit_xor (xtime b) b)) c) d
mix_sum a b c d = sym (mixed a b c d (xtime a) (xtime b) refl refl)
