-- Blocks in words of half a block, and these in planes. Assumes nothing.
use mathlib.Core.Path.{◌≡◌, refl, sym, ap, ap₂, ◌∙◌}
use mathlib.Core.Bool.{Bool, true, false, cond}
use mathlib.Core.List.{List, [], ◌∷◌, ◌++◌}
use Prim.Native.Nat.{ℕ, zero, suc, ◌+◌, ◌*◌, ◌/◌, ◌%◌, ◌^◌, ◌<◌}
use native.Mathlib.Omega.{arith}
use native.Mathlib.Nat.{mod-lt, zero-lt-suc}
use lib.Dec.{eqb}
use lib.Bits.{bit_xor, bit_and, xor_shr, xor_mod, xor_zero_r, and_shr, and_mod, and_mask, and_zero_r}
use lib.ListN.{get_or, length}
use Rattle.std.specs.Int.{w64, to_le_bytes, from_le_bytes}
use Rattle.std.proofs.lemmas.Nat.{le_bytes_8}
use Rattle.model.specs.Bytes.{tabulate}
use Rattle.model.specs.Aes.{Block, bit}
use Rattle.model.proofs.Lists.{entry, elements, from_cong}
use Rattle.model.proofs.XorRules.{xor_self_left}
use Rattle.planes.specs.declared.planes.Planes.{Planes}
use Rattle.planes.specs.Lanes.{planes_of, lane, from_bits, byte_at, lane_of, block_at}
use Rattle.planes.specs.Exchange.{From, in_word, in_byte, out_lane, Spread, Gathered}
use Rattle.planes.specs.Packing.{byte_of, bytes_of8, OfBytes, rows_from}
use Rattle.planes.proofs.Lanes.{eight, at_each, at_both, bits_of, from_bits_law, lane_is}
use Rattle.planes.proofs.Shifts.{bit_right}
use Rattle.planes.proofs.Swaps.{xor_twice}

-- ---- the bytes of a word

-- as std has them
pub std_bytes : (x : ℕ) → to_le_bytes w64 x ≡ bytes_of8 x
unfolding bytes_of8
std_bytes x = eight (omega arith) refl refl refl refl refl refl refl

few_small : (f : ℕ → ℕ) → ((i : ℕ) → f i < 256) → (i : ℕ) → get_or (tabulate 8 f) i 0 < 256
few_small f h zero = h 0
few_small f h (suc zero) = h 1
few_small f h (suc (suc zero)) = h 2
few_small f h (suc (suc (suc zero))) = h 3
few_small f h (suc (suc (suc (suc zero)))) = h 4
few_small f h (suc (suc (suc (suc (suc zero))))) = h 5
few_small f h (suc (suc (suc (suc (suc (suc zero)))))) = h 6
few_small f h (suc (suc (suc (suc (suc (suc (suc zero))))))) = h 7
few_small f h (suc (suc (suc (suc (suc (suc (suc (suc i)))))))) = omega arith

-- the word of eight bytes
word_bytes : (f : ℕ → ℕ) (x : ℕ) → ((i : ℕ) → f i < 256) → x ≡ from_le_bytes w64 (tabulate 8 f) → bytes_of8 x ≡ tabulate 8 f
word_bytes f x h e = sym (std_bytes x) ∙ le_bytes_8 (tabulate 8 f) x refl (few_small f h) e

-- a block, read half by half
pub gathered : (s : Block) (u v : ℕ) → length s ≡ 16 → ((i : ℕ) → get_or s i 0 < 256) → u ≡ from_le_bytes w64 (tabulate 8 (λ i. get_or s i 0)) →
    v ≡ from_le_bytes w64 (tabulate 8 (λ i. get_or s (8 + i) 0)) → bytes_of8 u ++ bytes_of8 v ≡ s
gathered s u v l h e f =
    ap₂ (λ (x y : List ℕ). x ++ y) (word_bytes (λ i. get_or s i 0) u h e) (word_bytes (λ i. get_or s (8 + i) 0) v (λ i. h (8 + i)) f) ∙ elements 16 s l

low_bits : (y : ℕ) → bits_of (y % 256) ≡ bits_of y
unfolding bit
low_bits y = eight (omega arith) (omega arith) (omega arith) (omega arith) (omega arith) (omega arith) (omega arith) (omega arith)

-- the bits of byte j
byte_bits : (x j : ℕ) → tabulate 8 (λ b. bit x (8 * j + b)) ≡ bits_of (byte_of x j)
byte_bits x j =
    let n : ℕ = 8 * j in
    sym (low_bits (x / 2 ^ n) ∙ eight (bit_right x n 0) (bit_right x n 1) (bit_right x n 2) (bit_right x n 3) (bit_right x n 4) (bit_right x n 5) (bit_right x n 6) (bit_right x n 7))

byte_lt : (x j : ℕ) → byte_of x j < 256
byte_lt x j = mod-lt (x / 2 ^ (8 * j)) (zero-lt-suc 255)

-- ---- bytes between words and planes

each8 : (f g : ℕ → ℕ) → ((b : ℕ) → b < 8 → f b ≡ g b) → tabulate 8 f ≡ tabulate 8 g
each8 f g h = from_cong 0 8 f g h

byte_in_law : (q r : Planes) → Spread q r → (l : ℕ) → l < 64 → byte_at r l ≡ byte_of (get_or (planes_of q) (in_word l) 0) (in_byte l)
unfolding From planes_of lane
byte_in_law q r is_r l h =
    let x : ℕ = get_or (planes_of q) (in_word l) 0 in
    lane_is r l (byte_of x (in_byte l)) (byte_lt x (in_byte l))
    (each8 (λ b. bit (get_or (planes_of r) b 0) l) (λ b. bit x (8 * in_byte l + b)) (λ b hb. is_r b l hb h) ∙ byte_bits x (in_byte l))

byte_out : (q r : Planes) → Gathered q r → (w j : ℕ) → w < 8 → j < 8 → byte_of (get_or (planes_of r) w 0) j ≡ byte_at q (out_lane w j)
unfolding From planes_of lane byte_at
byte_out q r is_r w j hw hj =
    let x : ℕ = get_or (planes_of r) w 0 in
    sym (from_bits_law (byte_of x j) (byte_lt x j))
    ∙ ap from_bits (sym (byte_bits x j)
    ∙ each8 (λ b. bit x (8 * j + b)) (λ b. bit (get_or (planes_of q) b 0) (out_lane w j))
    (λ b hb.
    let l : ℕ = 8 * j + b in
    let e : l % 8 ≡ b = omega arith in
    let f : l / 8 ≡ j = omega arith in
    is_r w l hw (omega arith) ∙ ap₂ (λ (m n : ℕ). bit (get_or (planes_of q) m 0) (out_lane w n)) e f))

half_lt : (i : ℕ) → i < 16 → i / 8 < 2
half_lt i h = omega arith

rest_lt : (i : ℕ) → i % 8 < 8
rest_lt i = omega arith

word_lt : (b c : ℕ) → b < 4 → c < 2 → b * 2 + c < 8
word_lt b c h k = omega arith

-- the word of half c of block b
the_word : (q : Planes) (b c j : ℕ) → c < 2 →
    byte_of (cond (eqb c 0) (get_or (planes_of q) (b * 2) 0) (get_or (planes_of q) (b * 2 + 1) 0)) j ≡ byte_of (get_or (planes_of q) (b * 2 + c) 0) j
the_word q b zero j hc =
    let n : b * 2 ≡ b * 2 + 0 = omega arith in
    ap (λ (m : ℕ). byte_of (get_or (planes_of q) m 0) j) n
the_word q b (suc zero) j hc = refl
the_word q b (suc (suc c)) j hc = absurd (omega arith)

-- ---- a block in

by_bytes : (x y : ℕ) → tabulate 16 (λ i. byte_of (cond (eqb (i / 8) 0) x y) (i % 8)) ≡ bytes_of8 x ++ bytes_of8 y
unfolding bytes_of8
by_bytes x y = refl

lane_lt : (b i : ℕ) → b < 4 → i < 16 → lane_of 0 b i < 64
lane_lt b i hb hi =
    let z : lane_of 0 b i / 64 ≡ 0 = at_both 4 16 (λ b i. lane_of 0 b i / 64) (λ b i. 0) refl b i hb hi in
    omega (arith, z)

pub packs : (q r : Planes) → Spread q r → (b : ℕ) → b < 4 → (s : Block) → bytes_of8 (get_or (planes_of q) (b * 2) 0) ++ bytes_of8 (get_or (planes_of q) (b * 2 + 1) 0) ≡ s → block_at 0 b r ≡ s
unfolding block_at
packs q r is_r b hb s e =
    let x : ℕ = get_or (planes_of q) (b * 2) 0 in
    let y : ℕ = get_or (planes_of q) (b * 2 + 1) 0 in
    from_cong 0 16 (λ i. byte_at r (lane_of 0 b i)) (λ i. byte_of (cond (eqb (i / 8) 0) x y) (i % 8))
    (λ i h.
    let w : in_word (lane_of 0 b i) ≡ b * 2 + i / 8 = at_both 4 16 (λ b i. in_word (lane_of 0 b i)) (λ b i. b * 2 + i / 8) refl b i hb h in
    let j : in_byte (lane_of 0 b i) ≡ i % 8 = at_both 4 16 (λ b i. in_byte (lane_of 0 b i)) (λ b i. i % 8) refl b i hb h in
    byte_in_law q r is_r (lane_of 0 b i) (lane_lt b i hb h) ∙ ap₂ (λ (m n : ℕ). byte_of (get_or (planes_of q) m 0) n) w j ∙ sym (the_word q b (i / 8) (i % 8) (half_lt i h)))
    ∙ by_bytes x y ∙ e

-- ---- a block out

byte_xor : (x y j : ℕ) → byte_of (bit_xor x y) j ≡ bit_xor (byte_of x j) (byte_of y j)
byte_xor x y j = ap (λ (n : ℕ). n % 256) (xor_shr x y (8 * j)) ∙ xor_mod (x / 2 ^ (8 * j)) (y / 2 ^ (8 * j)) 8

byte_and : (x y j : ℕ) → byte_of (bit_and x y) j ≡ bit_and (byte_of x j) (byte_of y j)
byte_and x y j = ap (λ (n : ℕ). n % 256) (and_shr x y (8 * j)) ∙ and_mod (x / 2 ^ (8 * j)) (y / 2 ^ (8 * j)) 8

-- a has the bytes of x and y that differ exclusive-ored into those of its bytes for which the mask has 255
module _ (mask a x y j : ℕ) where
  stays : byte_of mask j ≡ 0 → byte_of (bit_xor a (bit_and (bit_xor x y) mask)) j ≡ byte_of a j
  stays e =
      byte_xor a (bit_and (bit_xor x y) mask) j ∙ ap (bit_xor (byte_of a j)) (byte_and (bit_xor x y) mask j ∙ ap (bit_and (byte_of (bit_xor x y) j)) e ∙ and_zero_r (byte_of (bit_xor x y) j))
      ∙ xor_zero_r (byte_of a j)

  goes : byte_of mask j ≡ 255 → byte_of (bit_xor a (bit_and (bit_xor x y) mask)) j ≡ bit_xor (byte_of a j) (bit_xor (byte_of x j) (byte_of y j))
  goes e =
      let z : ℕ = byte_of (bit_xor x y) j in
      let same : z % 256 ≡ z = omega (arith, byte_lt (bit_xor x y) j) in
      byte_xor a (bit_and (bit_xor x y) mask) j ∙ ap (bit_xor (byte_of a j)) (byte_and (bit_xor x y) mask j ∙ ap (bit_and z) e ∙ and_mask z 8 ∙ same ∙ byte_xor x y j)

-- which makes them those of the other word, whichever a is
module _ (mask : ℕ) (rows : OfBytes mask) (a o x y : ℕ) (other : (j : ℕ) → bit_xor (byte_of a j) (bit_xor (byte_of x j) (byte_of y j)) ≡ byte_of o j) where
  byte_swapped : (j : ℕ) → j < 8 → (b : Bool) → byte_of mask j ≡ cond b 0 255 → byte_of (bit_xor a (bit_and (bit_xor x y) mask)) j ≡ get_or (cond b (bytes_of8 a) (bytes_of8 o)) j 0
  unfolding bytes_of8
  byte_swapped j h true e = stays mask a x y j e ∙ sym (entry 0 8 (byte_of a) j h)
  byte_swapped j h false e = goes mask a x y j e ∙ other j ∙ sym (entry 0 8 (byte_of o) j h)

  swapped : bytes_of8 (bit_xor a (bit_and (bit_xor x y) mask)) ≡ rows_from mask (bytes_of8 a) (bytes_of8 o)
  unfolding bytes_of8 rows_from
  swapped =
      each8 (byte_of (bit_xor a (bit_and (bit_xor x y) mask))) (λ j. get_or (cond (eqb (byte_of mask j) 0) (bytes_of8 a) (bytes_of8 o)) j 0)
      (λ j h. byte_swapped j h (eqb (byte_of mask j) 0) (at_each 8 (byte_of mask) (λ j. cond (eqb (byte_of mask j) 0) 0 255) rows j h))

pub first_swapped : (mask x y : ℕ) → OfBytes mask → bytes_of8 (bit_xor x (bit_and (bit_xor x y) mask)) ≡ rows_from mask (bytes_of8 x) (bytes_of8 y)
first_swapped mask x y rows = swapped mask rows x y x y (λ j. xor_self_left (byte_of x j) (byte_of y j))

pub second_swapped : (mask x y : ℕ) → OfBytes mask → bytes_of8 (bit_xor y (bit_and (bit_xor x y) mask)) ≡ rows_from mask (bytes_of8 y) (bytes_of8 x)
second_swapped mask x y rows = swapped mask rows y x x y (λ j. xor_twice (byte_of x j) (byte_of y j))

abbrev list16 : List ℕ → List ℕ → List ℕ
list16 s t =
    get_or s 0 0 ∷ get_or s 1 0 ∷ get_or s 2 0 ∷ get_or s 3 0 ∷ get_or s 4 0 ∷ get_or s 5 0 ∷ get_or s 6 0 ∷ get_or s 7 0 ∷ get_or t 0 0 ∷ get_or t 1 0 ∷ get_or t 2 0 ∷ get_or t 3 0 ∷ get_or t 4 0 ∷ get_or t 5 0 ∷ get_or t 6 0 ∷ get_or t 7 0 ∷ []

pub two_halves : (s t : List ℕ) (x y : ℕ) → s ≡ bytes_of8 x → t ≡ bytes_of8 y → list16 s t ≡ bytes_of8 x ++ bytes_of8 y
unfolding bytes_of8
two_halves s t x y a b = ap₂ list16 a b

pub unpacks : (p q : Planes) → Gathered p q → (b : ℕ) → b < 4 → bytes_of8 (get_or (planes_of q) (b * 2) 0) ++ bytes_of8 (get_or (planes_of q) (b * 2 + 1) 0) ≡ block_at 2 b p
unfolding block_at
unpacks p q is_q b hb =
    let x : ℕ = get_or (planes_of q) (b * 2) 0 in
    let y : ℕ = get_or (planes_of q) (b * 2 + 1) 0 in
    sym (by_bytes x y)
    ∙ from_cong 0 16 (λ i. byte_of (cond (eqb (i / 8) 0) x y) (i % 8)) (λ i. byte_at p (lane_of 2 b i))
    (λ i h.
    let l : out_lane (b * 2 + i / 8) (i % 8) ≡ lane_of 2 b i = at_both 4 16 (λ b i. out_lane (b * 2 + i / 8) (i % 8)) (λ b i. lane_of 2 b i) refl b i hb h in
    the_word q b (i / 8) (i % 8) (half_lt i h) ∙ byte_out p q is_q (b * 2 + i / 8) (i % 8) (word_lt b (i / 8) hb (half_lt i h)) (rest_lt i) ∙ ap (byte_at p) l)
