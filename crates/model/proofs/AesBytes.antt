-- Bytes stay bytes: in GF(2^8), in each step of AES, and in a key's schedule. Assumes nothing.
use mathlib.Core.Bool.{Bool, true, false, cond}
use mathlib.Core.List.{List, [], ◌∷◌}
use Prim.Native.Nat.{ℕ, zero, suc, ◌+◌, ◌-◌, ◌*◌, ◌/◌, ◌%◌, ◌^◌, ◌<◌}
use native.Mathlib.Nat.{pow-succ'}
use native.Mathlib.Omega.{arith}
use lib.Bits.{bit_xor, xor_lt}
use lib.Dec.{eqb}
use lib.ListN.{get_or}
use Rattle.model.specs.Bytes.{tabulate}
use Rattle.model.specs.Aes.{Block, ◌⊕◌, xtime, mul_bits, gmul, squares, inverse, affine_bit, affine_bits, s_box, sub_bytes, shift_rows, column, mix_byte, mix_word, mix_columns, round_key, add_round_key, xor_word, rot_word, sub_word, power_of_x, rcon, temp, next_word, expand_by, aes_round, rounds}
use Rattle.model.proofs.Number.{Bytes, more, from_bytes, byte_at, both}
use Rattle.model.proofs.Bits.{Bit, b0, b1, bit_mod}
use Rattle.model.proofs.Mix.{xtime_byte, mix_sum}

-- those at some places of a list
picked : {l : List ℕ} → Bytes l → (n : ℕ) (f : ℕ → ℕ) → Bytes (tabulate n (λ k. get_or l (f k) 0))
picked {l} r n f = from_bytes 0 n (λ k. get_or l (f k) 0) (λ k. byte_at r (f k))

pub xor_byte : (a b : ℕ) → a < 256 → b < 256 → bit_xor a b < 256
xor_byte a b h k = xor_lt 8 a b h k

-- ---- a byte by itself

affine_low : (n x : ℕ) → affine_bits n x < 2 ^ n
unfolding affine_bits affine_bit
affine_low zero x = omega arith
affine_low (suc n) x = go (bit_mod _) (affine_low n x)
  where
    go : {b l : ℕ} → Bit b → l < 2 ^ n → b * 2 ^ n + l < 2 ^ suc n
    go b0 h = omega (arith, pow-succ' 2 n)
    go b1 h = omega (arith, pow-succ' 2 n)

s_box_byte : (b : ℕ) → s_box b < 256
unfolding s_box
s_box_byte b = affine_low 8 (inverse b)

product_byte : (n a b : ℕ) → a < 256 → mul_bits n a b < 256
unfolding mul_bits
product_byte zero a b h = omega arith
product_byte (suc n) a b h = xor_byte (b % 2 * a) _ (go (bit_mod b)) (product_byte n (xtime a) (b / 2) (xtime_byte a h))
  where
    go : {x : ℕ} → Bit x → x * a < 256
    go b0 = omega arith
    go b1 = omega arith

pub inverse_byte : (a : ℕ) → a < 256 → inverse a < 256
unfolding inverse squares gmul
inverse_byte a h = product_byte 8 (mul_bits 8 a a) _ (product_byte 8 a a h)

mix_byte_law : (a b c d : ℕ) → a < 256 → b < 256 → c < 256 → d < 256 → mix_byte a b c d < 256
mix_byte_law a b c d ha hb hc hd =
    rw (mix_sum a b c d)
    (xor_byte _ d (xor_byte _ c (xor_byte _ _ (xtime_byte a ha) (xor_byte _ b (xtime_byte b hb) hb)) hc) hd)

power_byte : (k : ℕ) → power_of_x k < 256
unfolding power_of_x
power_byte zero = omega arith
power_byte (suc k) = xtime_byte (power_of_x k) (power_byte k)

-- ---- a block, after each step

pub sub_bytes_law : (s : Block) → Bytes (sub_bytes s)
unfolding sub_bytes
sub_bytes_law s = from_bytes 0 16 _ (λ i. s_box_byte (get_or s i 0))

pub shift_bytes : {s : Block} → Bytes s → Bytes (shift_rows s)
unfolding shift_rows
shift_bytes {s} r = picked r 16 (λ i. i % 4 + 4 * ((i / 4 + i % 4) % 4))

mixed_bytes : {w : List ℕ} → Bytes w → Bytes (mix_word w)
unfolding mix_word
mixed_bytes {w} r =
    from_bytes 0 4 (λ k. mix_byte (get_or w k 0) (get_or w ((k + 1) % 4) 0) (get_or w ((k + 2) % 4) 0) (get_or w ((k + 3) % 4) 0))
    (λ k. mix_byte_law (get_or w k 0) (get_or w ((k + 1) % 4) 0) (get_or w ((k + 2) % 4) 0) (get_or w ((k + 3) % 4) 0) (byte_at r k) (byte_at r ((k + 1) % 4)) (byte_at r ((k + 2) % 4)) (byte_at r ((k + 3) % 4)))

mix_bytes : {s : Block} → Bytes s → Bytes (mix_columns s)
unfolding mix_columns
mix_bytes {s} r =
    from_bytes 0 16 (λ i. get_or (mix_word (column s (i / 4))) (i % 4) 0) (λ i. byte_at (mixed_bytes (picked r 4 (λ k. k + 4 * (i / 4)))) (i % 4))

sum_bytes : {a b : Block} → Bytes a → Bytes b → Bytes (a ⊕ b)
unfolding ◌⊕◌
sum_bytes r q = from_bytes 0 16 _ (λ i. xor_byte _ _ (byte_at r i) (byte_at q i))

key_bytes : {w s : List ℕ} (r : ℕ) → Bytes w → Bytes s → Bytes (add_round_key w r s)
unfolding add_round_key round_key
key_bytes r v q = sum_bytes q (picked v 16 (λ i. 16 * r + i))

pub rounds_bytes : {w s : List ℕ} (r : ℕ) → Bytes w → Bytes s → Bytes (rounds w r s)
unfolding rounds aes_round
rounds_bytes zero v q = key_bytes 0 v q
rounds_bytes (suc r) v q = key_bytes (suc r) v (mix_bytes (shift_bytes (sub_bytes_law _)))

-- ---- a schedule

word_bytes : {a b : List ℕ} → Bytes a → Bytes b → Bytes (xor_word a b)
word_bytes r q = from_bytes 0 4 _ (λ j. xor_byte _ _ (byte_at r j) (byte_at q j))

zeros : Bytes (0 ∷ 0 ∷ 0 ∷ [])
zeros = from_bytes 0 3 (λ k. 0) (λ k. omega arith)

sub_word_law : (a : List ℕ) → Bytes (sub_word a)
unfolding sub_word
sub_word_law a = from_bytes 0 4 (λ j. s_box (get_or a j 0)) (λ j. s_box_byte (get_or a j 0))

temp_bytes : (i : ℕ) {a : List ℕ} → Bytes a → Bytes (temp i a)
unfolding temp
temp_bytes i {a} r = go (eqb (i % 4) 0)
  where
    go : (b : Bool) → Bytes (cond b (xor_word (sub_word (rot_word a)) (rcon (i / 4))) a)
    go true = word_bytes (sub_word_law (rot_word a)) (more {x = power_of_x (i / 4 - 1)} (power_byte (i / 4 - 1)) zeros)
    go false = r

pub expand_bytes : (k : ℕ) {key : Block} → Bytes key → Bytes (expand_by k key)
unfolding expand_by next_word
expand_bytes zero r = r
expand_bytes (suc k) r =
    let w = expand_bytes k r in
    both w (word_bytes (picked w 4 (λ j. 4 * (4 + k - 4) + j)) (temp_bytes (4 + k) (picked w 4 (λ j. 4 * (4 + k - 1) + j))))
