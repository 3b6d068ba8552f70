-- Words of 8 bytes, and a block as two of them: bytes in either order, exclusive or, σ, doubling. Assumes nothing.
use mathlib.Core.Path.{◌≡◌, refl, sym, ap, ap₂, ◌∙◌}
use mathlib.Core.List.{List, [], ◌∷◌, ◌++◌}
use Prim.Native.Nat.{ℕ, zero, suc, ◌+◌, ◌-◌, ◌*◌, ◌/◌, ◌%◌, ◌^◌, ◌<◌}
use native.Mathlib.Nat.{add-mul, mul_assoc, mul_comm}
use native.Mathlib.Omega.{arith}
use lib.Arith.{digits_div}
use lib.Bits.{bit_or, bit_xor, or_shifted, xor_shr, xor_mod, xor_zero_r}
use lib.ListN.{get_or, length}
use lib.Pow.{shr-shr}
use Rattle.std.specs.Int.{w64, from_be_bytes, to_le_bytes, swap_bytes}
use Rattle.model.specs.Bytes.{tabulate, number, bytes_of}
use Rattle.model.specs.Aes.{Block, ◌⊕◌, block, times, double}
use Rattle.model.specs.Hashes.{sigma}
use Rattle.model.proofs.Lists.{elements}
use Rattle.model.proofs.Number.{Bytes, none, more, bytes_number, number_bytes, number_append, of_number, both, leading_zeros}

-- ---- a word and its bytes

eight : {a b c d e f g h a' b' c' d' e' f' g' h' : ℕ} → a ≡ a' → b ≡ b' → c ≡ c' → d ≡ d' → e ≡ e' → f ≡ f' → g ≡ g' → h ≡ h' →
    ◌≡◌ {A = List ℕ} (a ∷ b ∷ c ∷ d ∷ e ∷ f ∷ g ∷ h ∷ []) (a' ∷ b' ∷ c' ∷ d' ∷ e' ∷ f' ∷ g' ∷ h' ∷ [])
eight p q r s t u v w = cc

-- the bytes that a word is made of
made : {l : List ℕ} (x : ℕ) → Bytes l → x ≡ number l → bytes_of (length l) x ≡ l
made {l} x b e = ap (bytes_of (length l)) (e ∙ omega arith) ∙ bytes_number 0 b

-- read from its bytes, the highest first
gathered : (a b c d e f g h x : ℕ) → a < 256 → b < 256 → c < 256 → d < 256 → e < 256 → f < 256 → g < 256 → h < 256 →
    x ≡ from_be_bytes w64 (a ∷ b ∷ c ∷ d ∷ e ∷ f ∷ g ∷ h ∷ []) → bytes_of 8 x ≡ a ∷ b ∷ c ∷ d ∷ e ∷ f ∷ g ∷ h ∷ []
unfolding number
gathered a b c d e f g h x ha hb hc hd he hf hg hh is_x =
    made x (more ha (more hb (more hc (more hd (more he (more hf (more hg (more hh none)))))))) (omega (arith, is_x))

-- swapped, and written the lowest first
swapped : (x y : ℕ) → y ≡ swap_bytes w64 x → bytes_of 8 y ≡ to_le_bytes w64 x
swapped x y e = gathered _ _ _ _ _ _ _ _ y (omega arith) (omega arith) (omega arith) (omega arith) (omega arith) (omega arith) (omega arith) (omega arith) e

-- bytes the other way round
turned : List ℕ → List ℕ
turned l = tabulate 8 (λ i. get_or l (7 - i) 0)

pub written : (x y : ℕ) → y ≡ swap_bytes w64 x → to_le_bytes w64 y ≡ bytes_of 8 x
unfolding bytes_of turned
written x y e = eight (omega arith) refl refl refl refl refl refl refl ∙ ap turned (swapped x y e) ∙ eight refl refl refl refl refl refl refl (omega arith)

-- ---- a block as two words: the bytes of the high one, then those of the low one

abbrev pub halves : ℕ → ℕ → Block
halves x y = bytes_of 8 x ++ bytes_of 8 y

pub joined : (s : Block) (x y : ℕ) → length s ≡ 16 → ((i : ℕ) → i < 16 → get_or s i 0 < 256) →
    x ≡ from_be_bytes w64 (get_or s 0 0 ∷ get_or s 1 0 ∷ get_or s 2 0 ∷ get_or s 3 0 ∷ get_or s 4 0 ∷ get_or s 5 0 ∷ get_or s 6 0 ∷ get_or s 7 0 ∷ []) →
    y ≡ from_be_bytes w64 (get_or s 8 0 ∷ get_or s 9 0 ∷ get_or s 10 0 ∷ get_or s 11 0 ∷ get_or s 12 0 ∷ get_or s 13 0 ∷ get_or s 14 0 ∷ get_or s 15 0 ∷ []) →
    halves x y ≡ s
joined s x y l fits p q =
    ap₂ (λ (a b : List ℕ). a ++ b)
    (gathered _ _ _ _ _ _ _ _ x (fits 0 (omega arith)) (fits 1 (omega arith)) (fits 2 (omega arith)) (fits 3 (omega arith)) (fits 4 (omega arith)) (fits 5 (omega arith)) (fits 6 (omega arith)) (fits 7 (omega arith)) p)
    (gathered _ _ _ _ _ _ _ _ y (fits 8 (omega arith)) (fits 9 (omega arith)) (fits 10 (omega arith)) (fits 11 (omega arith)) (fits 12 (omega arith)) (fits 13 (omega arith)) (fits 14 (omega arith)) (fits 15 (omega arith)) q)
    ∙ elements 16 s l

-- a number of 64 bits
pub small : (k : ℕ) → k < 2 ^ 64 → halves 0 k ≡ block k
unfolding block bytes_of
small k h = sym (leading_zeros 8 8 k h)

-- exclusive or
byte_xor : (x y k : ℕ) → bit_xor x y / 2 ^ (8 * k) % 256 ≡ bit_xor (x / 2 ^ (8 * k) % 256) (y / 2 ^ (8 * k) % 256)
byte_xor x y k = ap (λ (n : ℕ). n % 256) (xor_shr x y (8 * k)) ∙ xor_mod (x / 2 ^ (8 * k)) (y / 2 ^ (8 * k)) 8

word_xor : (x y : ℕ) → bytes_of 8 (bit_xor x y) ≡ tabulate 8 (λ i. bit_xor (get_or (bytes_of 8 x) i 0) (get_or (bytes_of 8 y) i 0))
unfolding bytes_of
word_xor x y =
    eight (byte_xor x y 7) (byte_xor x y 6) (byte_xor x y 5) (byte_xor x y 4) (byte_xor x y 3) (byte_xor x y 2) (byte_xor x y 1) (byte_xor x y 0)

pub halves_xor : (x y z w : ℕ) → halves (bit_xor x z) (bit_xor y w) ≡ halves x y ⊕ halves z w
unfolding ◌⊕◌ bytes_of
halves_xor x y z w = ap₂ (λ (a b : List ℕ). a ++ b) (word_xor x z) (word_xor y w)

-- ---- σ

pub sigma_halves : (x y : ℕ) → halves (bit_xor x y) x ≡ sigma (halves x y)
unfolding sigma bytes_of
sigma_halves x y = ap (λ (a : List ℕ). a ++ bytes_of 8 x) (word_xor x y)

-- ---- doubling

-- a number of two digits at the place value p, doubled: c is carried from the low digit, and q is carried out
carried : (p q h l x y c : ℕ) → h * 2 + c ≡ q * p + x → l * 2 ≡ c * p + y → (h * p + l) * 2 ≡ q * (p * p) + (x * p + y)
carried p q h l x y c e f =
    let e1 : h * p * 2 ≡ h * 2 * p = mul_assoc h p 2 ∙ ap (λ (z : ℕ). h * z) (mul_comm p 2) ∙ sym (mul_assoc h 2 p) in
    let e2 : h * 2 * p + c * p ≡ q * p * p + x * p = sym (add-mul (h * 2) c p) ∙ ap (λ (z : ℕ). z * p) e ∙ add-mul (q * p) x p in
    omega (arith, e1, e2, f, mul_assoc q p p)

fits : (a c : ℕ) → a < 2 ^ 63 → c < 2 → a * 2 + c < 2 ^ 64
fits a c h k = omega arith

module _ (h l : ℕ) (lh : h < 2 ^ 64) (ll : l < 2 ^ 64) where
  number_halves : number (halves h l) ≡ h * 2 ^ 64 + l
  unfolding bytes_of
  number_halves =
      let p : number (bytes_of 8 h) ≡ h = number_bytes 8 h ∙ omega arith in
      let q : number (bytes_of 8 l) ≡ l = number_bytes 8 l ∙ omega arith in
      number_append (bytes_of 8 h) (bytes_of 8 l) ∙ ap₂ (λ (a b : ℕ). a * 2 ^ 64 + b) p q

  -- the bit shifted out
  out : number (halves h l) / 2 ^ 127 ≡ h / 2 ^ 63
  out = sym (shr-shr (number (halves h l)) 64 63) ∙ ap (λ (n : ℕ). n / 2 ^ 64 / 2 ^ 63) number_halves ∙ ap (λ (n : ℕ). n / 2 ^ 63) (digits_div h ll)

  even : h * 2 % 2 ^ 64 ≡ h % 2 ^ 63 * 2
  even = omega arith

  or_sum : bit_or (h * 2 % 2 ^ 64) (l / 2 ^ 63) ≡ h * 2 % 2 ^ 64 + l / 2 ^ 63
  or_sum = rw even (or_shifted (h % 2 ^ 63) 1 (l / 2 ^ 63) (omega arith))

  sum_fits : h * 2 % 2 ^ 64 + l / 2 ^ 63 < 2 ^ 64
  sum_fits = rw even (fits (h % 2 ^ 63) (l / 2 ^ 63) (omega arith) (omega arith))

pub shifted_halves : (h l : ℕ) → h < 2 ^ 64 → l < 2 ^ 64 → halves (bit_or (h * 2 % 2 ^ 64) (l / 2 ^ 63)) (l * 2 % 2 ^ 64) ≡ block (number (halves h l) * 2)
unfolding block number bytes_of
shifted_halves h l lh ll =
    let x : ℕ = h * 2 % 2 ^ 64 + l / 2 ^ 63 in
    let y : ℕ = l * 2 % 2 ^ 64 in
    let e : number (halves h l) * 2 ≡ h / 2 ^ 63 * 256 ^ 16 + number (halves x y) =
    ap (λ (n : ℕ). n * 2) (number_halves h l lh ll) ∙ carried (2 ^ 64) (h / 2 ^ 63) h l x y (l / 2 ^ 63) (omega arith) (omega arith)
    ∙ ap (λ (n : ℕ). h / 2 ^ 63 * 256 ^ 16 + n) (sym (number_halves x y (sum_fits h l lh ll) (omega arith))) in
    ap (λ (n : ℕ). halves n y) (or_sum h l lh ll) ∙ sym (ap (bytes_of 16) e ∙ bytes_number (h / 2 ^ 63) (both (of_number 8 x) (of_number 8 y)))

-- hex 87, or nothing
reduction : (q : ℕ) → q < 2 → halves 0 (q * 0x87) ≡ times q (block 0x87)
unfolding times block bytes_of
reduction zero h = refl
reduction (suc zero) h = refl
reduction (suc (suc q)) h = absurd (omega arith)

-- x and y are the halves of the shifted number
pub doubled_halves : (h l x y : ℕ) → h < 2 ^ 64 → l < 2 ^ 64 → halves x y ≡ block (number (halves h l) * 2) → halves x (bit_xor y (h / 2 ^ 63 * 0x87)) ≡ double (halves h l)
unfolding double
doubled_halves h l x y lh ll e =
    let q : ℕ = h / 2 ^ 63 in
    ap (λ (z : ℕ). halves z (bit_xor y (q * 0x87))) (sym (xor_zero_r x)) ∙ halves_xor x y 0 (q * 0x87)
    ∙ ap₂ (λ (a b : Block). a ⊕ b) e (reduction q (omega arith) ∙ ap (λ (z : ℕ). times z (block 0x87)) (sym (out h l lh ll)))
