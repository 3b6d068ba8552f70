-- Words lane by lane: a bitwise operation acts on each lane by itself, and a lane of eight planes is a byte. Assumes nothing.
use mathlib.Core.Path.{◌≡◌, refl, sym, ap, ap₂, ◌∙◌}
use mathlib.Core.List.{List, [], ◌∷◌}
use Prim.Native.Nat.{ℕ, suc, ◌+◌, ◌*◌, ◌-◌, ◌/◌, ◌%◌, ◌^◌, ◌<◌, ◌≤◌}
use native.Mathlib.Omega.{arith}
use native.Mathlib.Nat.{zero-add, suc-mul, mul-le-mul_right, mod-lt, zero-lt-suc, zero-div, div-eq_of_lt, mod-eq_of_lt, add-mul-div_right, add-mul-mod_self_right}
use lib.Bits.{bit_xor, bit_and, bit_or, xor_shr, xor_mod, and_shr, and_mod, or_shr, or_mod, and_mask}
use lib.ListN.{get_or}
use Rattle.model.specs.Bytes.{tabulate}
use Rattle.model.specs.Aes.{bit}
use Rattle.model.proofs.Lists.{entry}
use Rattle.planes.specs.declared.planes.Planes.{Planes}
use Rattle.planes.specs.Lanes.{planes_of, lane, from_bits, byte_at}

pub eight : {a b c d e f g h a' b' c' d' e' f' g' h' : ℕ} → a ≡ a' → b ≡ b' → c ≡ c' → d ≡ d' → e ≡ e' → f ≡ f' → g ≡ g' → h ≡ h' →
    ◌≡◌ {A = List ℕ} (a ∷ b ∷ c ∷ d ∷ e ∷ f ∷ g ∷ h ∷ []) (a' ∷ b' ∷ c' ∷ d' ∷ e' ∷ f' ∷ g' ∷ h' ∷ [])
eight p q r s t u v w = cc

-- what a check of n places found, at each of them
pub at_each : (n : ℕ) (f g : ℕ → ℕ) → tabulate n f ≡ tabulate n g → (l : ℕ) → l < n → f l ≡ g l
at_each n f g e l h = sym (entry 0 n f l h) ∙ ap (λ (v : List ℕ). get_or v l 0) e ∙ entry 0 n g l h

-- the same of places (i, j), counted as i + mj
module _ (m n : ℕ) where
  abbrev pub Agree : (f g : ℕ → ℕ → ℕ) → Type 0
  Agree f g = tabulate (n * m) (λ x. f (x % m) (x / m)) ≡ tabulate (n * m) (λ x. g (x % m) (x / m))

  pub at_both : (f g : ℕ → ℕ → ℕ) → Agree f g → (i j : ℕ) → i < m → j < n → f i j ≡ g i j
  at_both f g e i j hi hj =
      let x : ℕ = i + j * m in
      let p : x % m ≡ i = add-mul-mod_self_right i j m ∙ mod-eq_of_lt hi in
      let q : x / m ≡ j = add-mul-div_right i j (omega arith) ∙ ap (λ (k : ℕ). k + j) (div-eq_of_lt hi) ∙ zero-add j in
      let s : suc j * m ≤ n * m = mul-le-mul_right m hj in
      let b : x < n * m = omega (arith, s, suc-mul j m) in
      sym (ap₂ f p q) ∙ at_each (n * m) (λ x. f (x % m) (x / m)) (λ x. g (x % m) (x / m)) e x b ∙ ap₂ g p q

-- ---- bits

pub bit_xor_law : (x y l : ℕ) → bit (bit_xor x y) l ≡ bit_xor (bit x l) (bit y l)
unfolding bit
bit_xor_law x y l = ap (λ (n : ℕ). n % 2) (xor_shr x y l) ∙ xor_mod (x / 2 ^ l) (y / 2 ^ l) 1

pub bit_and_law : (x y l : ℕ) → bit (bit_and x y) l ≡ bit_and (bit x l) (bit y l)
unfolding bit
bit_and_law x y l = ap (λ (n : ℕ). n % 2) (and_shr x y l) ∙ and_mod (x / 2 ^ l) (y / 2 ^ l) 1

pub bit_or_law : (x y l : ℕ) → bit (bit_or x y) l ≡ bit_or (bit x l) (bit y l)
unfolding bit
bit_or_law x y l = ap (λ (n : ℕ). n % 2) (or_shr x y l) ∙ or_mod (x / 2 ^ l) (y / 2 ^ l) 1

pub bit_zero : (l : ℕ) → bit 0 l ≡ 0
unfolding bit
bit_zero l = ap (λ (n : ℕ). n % 2) (zero-div (2 ^ l))

pub bit_lt : (x l : ℕ) → bit x l < 2
unfolding bit
bit_lt x l = mod-lt (x / 2 ^ l) (zero-lt-suc 1)

pub and_one : (b : ℕ) → b < 2 → bit_and b 1 ≡ b
and_one b h = and_mask b 1 ∙ omega arith

abbrev pub ones : ℕ
ones = 2 ^ 64 - 1

pub all_ones : (l : ℕ) → l < 64 → bit ones l ≡ 1
unfolding bit
all_ones = at_each 64 (bit ones) (λ i. 1) refl

-- ---- a byte and its bits

abbrev pub bits_of : ℕ → List ℕ
bits_of x = tabulate 8 (bit x)

-- a byte is what its bits make
pub from_bits_law : (z : ℕ) → z < 256 → from_bits (bits_of z) ≡ z
unfolding from_bits bit
from_bits_law = at_each 256 (λ z. from_bits (bits_of z)) (λ z. z) refl

-- and has the bits that it is made of
module _ {b0 b1 b2 b3 b4 b5 b6 b7 : ℕ} (h0 : b0 < 2) (h1 : b1 < 2) (h2 : b2 < 2) (h3 : b3 < 2) (h4 : b4 < 2) (h5 : b5 < 2) (h6 : b6 < 2) (h7 : b7 < 2) where
  abbrev bits : List ℕ
  bits = b0 ∷ b1 ∷ b2 ∷ b3 ∷ b4 ∷ b5 ∷ b6 ∷ b7 ∷ []

  bits_made : bits ≡ bits_of (from_bits bits)
  unfolding from_bits bit
  bits_made = eight (omega arith) (omega arith) (omega arith) (omega arith) (omega arith) (omega arith) (omega arith) (omega arith)

  bits_lt : from_bits bits < 256
  unfolding from_bits
  bits_lt = omega arith

module _ (q : Planes) (l : ℕ) where
  pub lane_bits : lane l (planes_of q) ≡ bits_of (byte_at q l)
  unfolding planes_of lane byte_at
  lane_bits = bits_made (bit_lt q.p0 l) (bit_lt q.p1 l) (bit_lt q.p2 l) (bit_lt q.p3 l) (bit_lt q.p4 l) (bit_lt q.p5 l) (bit_lt q.p6 l) (bit_lt q.p7 l)

  pub byte_lt : byte_at q l < 256
  unfolding planes_of lane byte_at
  byte_lt = bits_lt (bit_lt q.p0 l) (bit_lt q.p1 l) (bit_lt q.p2 l) (bit_lt q.p3 l) (bit_lt q.p4 l) (bit_lt q.p5 l) (bit_lt q.p6 l) (bit_lt q.p7 l)

  pub lane_is : (z : ℕ) → z < 256 → lane l (planes_of q) ≡ bits_of z → byte_at q l ≡ z
  unfolding byte_at
  lane_is z h e = ap from_bits e ∙ from_bits_law z h
