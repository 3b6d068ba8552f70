-- Laws of `number` and `bytes_of`. Assumes nothing.
use mathlib.Core.Path.{◌≡◌, refl, sym, ap, ap₂, ◌∙◌}
use mathlib.Core.List.{List, [], ◌∷◌, ◌++◌}
use Prim.Native.Nat.{ℕ, zero, suc, ◌+◌, ◌*◌, ◌/◌, ◌%◌, ◌^◌, ◌<◌}
use native.Mathlib.Nat.{add-mul, mul_assoc, pow-succ', zero-add, suc-add, div-eq_of_lt, lt_of_lt_of_le, pow-le-pow_right}
use native.Mathlib.Omega.{arith}
use lib.Arith.{digits_div, digits_mod, digits_lt, mod-mul}
use lib.ListN.{length, length-append, get_or, replicate}
use lib.Pow.{pow-add}
use Rattle.model.specs.Bytes.{from, number, bytes_of}

-- every byte is below 256
pub data Bytes : List ℕ → Type 0 where
  none : Bytes []
  more : {x : ℕ} {xs : List ℕ} → x < 256 → Bytes xs → Bytes (x ∷ xs)

pub from_bytes : (i n : ℕ) (f : ℕ → ℕ) → ((k : ℕ) → f k < 256) → Bytes (from i n f)
from_bytes i zero f h = none
from_bytes i (suc n) f h = more (h i) (from_bytes (suc i) n f h)

-- and so is each of them, 0 past the end too
pub byte_at : {l : List ℕ} → Bytes l → (i : ℕ) → get_or l i 0 < 256
byte_at none i = omega arith
byte_at (more h r) zero = h
byte_at (more h r) (suc i) = byte_at r i

pub all_bytes : (l : List ℕ) → ((i : ℕ) → get_or l i 0 < 256) → Bytes l
all_bytes [] h = none
all_bytes (x ∷ l) h = more (h 0) (all_bytes l (λ i. h (suc i)))

pub number_lt : {l : List ℕ} → Bytes l → number l < 256 ^ length l
unfolding number
number_lt none = omega arith
number_lt (more {x} {xs} h r) = rw (pow-succ' 256 (length xs)) (digits_lt h (number_lt r))

-- the bytes of a number are those that it was made from, whatever stands above them
pub bytes_number : (h : ℕ) {l : List ℕ} → Bytes l → bytes_of (length l) (h * 256 ^ length l + number l) ≡ l
unfolding number bytes_of
bytes_number h none = refl
bytes_number h (more {x} {xs} k r) =
    let p : ℕ = 256 ^ length xs in
    let f : h * 256 ^ suc (length xs) ≡ h * 256 * p = ap (λ (z : ℕ). h * z) (pow-succ' 256 (length xs)) ∙ sym (mul_assoc h 256 p) in
    let e : h * 256 ^ suc (length xs) + (x * p + number xs) ≡ (h * 256 + x) * p + number xs = omega (arith, f, add-mul (h * 256) x p) in
    ap (λ (z : ℕ). z / p % 256 ∷ bytes_of (length xs) z) e
    ∙ ap₂ {A = ℕ} {B = List ℕ} {C = List ℕ} (λ y ys. y ∷ ys)
    (ap (λ (z : ℕ). z % 256) (digits_div (h * 256 + x) (number_lt r)) ∙ digits_mod h k)
    (bytes_number (h * 256 + x) r)

-- a number that fits n bytes has k zeros before them
pub leading_zeros : (k n x : ℕ) → x < 256 ^ n → bytes_of (k + n) x ≡ replicate k 0 ++ bytes_of n x
unfolding bytes_of
leading_zeros zero n x h = rw zero-add
leading_zeros (suc k) n x h =
    let l : x < 256 ^ (k + n) = lt_of_lt_of_le h (pow-le-pow_right (omega arith) (omega arith)) in
    rw suc-add (ap₂ {A = ℕ} {B = List ℕ} {C = List ℕ} (λ y ys. y ∷ ys) (ap (λ (z : ℕ). z % 256) (div-eq_of_lt l)) (leading_zeros k n x h))

pub length_bytes : (n x : ℕ) → length (bytes_of n x) ≡ n
unfolding bytes_of
length_bytes zero x = refl
length_bytes (suc n) x = ap suc (length_bytes n x)

place : (n : ℕ) → 0 < 256 ^ n
place zero = omega arith
place (suc n) = rw (pow-succ' 256 n) (omega (arith, place n))

-- the number of n bytes of a number is what is left of it
pub number_bytes : (n x : ℕ) → number (bytes_of n x) ≡ x % 256 ^ n
unfolding number bytes_of
number_bytes zero x = omega arith
number_bytes (suc n) x =
    ap₂ (λ (k y : ℕ). x / 256 ^ n % 256 * 256 ^ k + y) (length_bytes n x) (number_bytes n x)
    ∙ sym (mod-mul x (omega arith) (place n)) ∙ ap (λ (m : ℕ). x % m) (sym (pow-succ' 256 n))

-- the bytes of a number are below 256
pub of_number : (n x : ℕ) → Bytes (bytes_of n x)
unfolding bytes_of
of_number zero x = none
of_number (suc n) x = more {x = x / 256 ^ n % 256} (omega arith) (of_number n x)

-- of two lists of bytes, one after the other
pub both : {a b : List ℕ} → Bytes a → Bytes b → Bytes (a ++ b)
both none s = s
both (more h r) s = more h (both r s)

pub number_append : (a b : List ℕ) → number (a ++ b) ≡ number a * 256 ^ length b + number b
unfolding number
number_append [] b = omega arith
number_append (x ∷ a) b =
    let p : ℕ = 256 ^ length b in
    let e : 256 ^ length (a ++ b) ≡ 256 ^ length a * p = ap (λ (n : ℕ). 256 ^ n) (length-append a b) ∙ pow-add 256 (length a) (length b) in
    ap₂ (λ (m n : ℕ). x * m + n) e (number_append a b) ∙ omega (arith, mul_assoc x (256 ^ length a) p, add-mul (x * 256 ^ length a) (number a) p)
