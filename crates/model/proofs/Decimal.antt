-- Laws of `decimal`: its two cases, how long it is, and that it is the number's decimal form. Assumes nothing.
use Prim.Native.Nat.{ℕ, zero, suc, ◌+◌, ◌-◌, ◌*◌, ◌/◌, ◌%◌, ◌^◌, ◌≤◌, ◌<◌}
use native.Mathlib.Nat.{not-suc-le-zero, le_of_suc-le-suc, eq-or-lt_of_le, div-lt_self, div-lt_iff_lt-mul, div-add-mod', mod-lt, pow-suc}
use native.Mathlib.Numerals.{add-one}
use native.Mathlib.Omega.{arith}
use mathlib.Core.Logic.{◌⊎◌, inl, inr}
use mathlib.Core.Path.{◌≡◌, refl, sym, ap, ◌∙◌}
use mathlib.Core.Bool.{Bool, true, false, cond}
use mathlib.Core.List.{List, [], ◌∷◌, ◌++◌}
use lib.ListN.{length, get_or, length-append, get_or-append}
use lib.Seq.{get_or_at}
use lib.Dec.{ltb}
use borrow.Author.Tests.{ltb-true, ltb-false, lt-ltb, le-ltb}
use Rattle.model.specs.Decimal.{digit, digits, decimal}

-- ---- the two cases

-- any bound above the number is enough
digits_enough : (j k x : ℕ) → x < j → x < k → digits j x ≡ digits k x
unfolding digits
digits_enough zero k x h l = absurd (not-suc-le-zero h)
digits_enough (suc j) zero x h l = absurd (not-suc-le-zero l)
digits_enough (suc j) (suc k) zero h l = refl
digits_enough (suc j) (suc k) (suc x) h l =
    let t : suc x / 10 < suc x = div-lt_self (omega arith) (omega arith) in
    ap (λ (r : List ℕ). cond (ltb (suc x) 10) (digit (suc x) ∷ []) (r ++ (digit (suc x % 10) ∷ [])))
    (digits_enough j k (suc x / 10) (omega arith) (omega arith))

-- "A number below 10 is its digit."
pub decimal_low : (x : ℕ) → x < 10 → decimal x ≡ digit x ∷ []
unfolding decimal digits
decimal_low x h = rw (lt-ltb x 10 h)

-- "Any other is what it has of tens, x / 10, and its last digit after it."
pub decimal_high : (x : ℕ) → 10 ≤ x → decimal x ≡ decimal (x / 10) ++ (digit (x % 10) ∷ [])
unfolding decimal digits
decimal_high x h =
    let t : x / 10 < x = div-lt_self (omega arith) (omega arith) in
    rw (le-ltb x 10 h)
    (ap (λ (r : List ℕ). r ++ (digit (x % 10) ∷ [])) (digits_enough x (suc (x / 10)) (x / 10) t (omega arith)))

-- a claim about every number and its text, from the two cases
module _ (P : ℕ → List ℕ → Type 0) (low : (x : ℕ) → x < 10 → P x (digit x ∷ [])) where
  module _ (high : (x : ℕ) → 10 ≤ x → P (x / 10) (decimal (x / 10)) → P x (decimal (x / 10) ++ (digit (x % 10) ∷ []))) where
    by_case : (x : ℕ) → (10 ≤ x → P (x / 10) (decimal (x / 10))) → (b : Bool) → ltb x 10 ≡ b → P x (decimal x)
    by_case x tens true e = rw (decimal_low x (ltb-true x 10 e)) (low x (ltb-true x 10 e))
    by_case x tens false e = let l : 10 ≤ x = ltb-false x 10 e in rw (decimal_high x l) (high x l (tens l))

    below : (k x : ℕ) → x < k → P x (decimal x)
    below zero x h = absurd (not-suc-le-zero h)
    below (suc k) x h =
        by_case x (λ l. let t : x / 10 < x = div-lt_self (omega arith) (omega arith) in below k (x / 10) (omega arith)) (ltb x 10) refl

    pub by_digits : (x : ℕ) → P x (decimal x)
    by_digits x = below (suc x) x (omega arith)

-- ---- how long it is

-- a number of at most k digits is below 10 to the power k
pub decimal_length : (x k : ℕ) → 0 < k → x < 10 ^ k → length (decimal x) ≤ k
decimal_length x =
    by_digits (λ x s. (k : ℕ) → 0 < k → x < 10 ^ k → length s ≤ k)
    (λ x h k l f. l)
    (λ x h tens. λ k l f. one_more x h tens k l f)
    x
  where
    one_more : (x : ℕ) → 10 ≤ x → ((k : ℕ) → 0 < k → x / 10 < 10 ^ k → length (decimal (x / 10)) ≤ k)
        → (k : ℕ) → 0 < k → x < 10 ^ k → length (decimal (x / 10) ++ (digit (x % 10) ∷ [])) ≤ k
    one_more x h tens zero l f = absurd (not-suc-le-zero l)
    one_more x h tens (suc zero) l f = absurd (omega arith)
    one_more x h tens (suc (suc k)) l f =
        let t : x / 10 < 10 ^ suc k = (div-lt_iff_lt-mul {k = 10} (omega arith)).1 (rw (pow-suc 10 (suc k)) at f) in
        let s : length (decimal (x / 10)) ≤ suc k = tens (suc k) (omega arith) t in
        simp length-append (omega arith)

-- a 64-bit number has at most 20 digits
pub decimal_few : (x : ℕ) → x < 2 ^ 64 → length (decimal x) ≤ 20
decimal_few x h = decimal_length x 20 (omega arith) (omega arith)

pub decimal_some : (x : ℕ) → 1 ≤ length (decimal x)
decimal_some x = by_digits (λ x s. 1 ≤ length s) (λ x h. omega arith) (λ x h t. simp length-append (omega arith)) x

-- ---- that it is the number's decimal form

-- the number that digits say, read from the first on, after y was read
pub read_from : ℕ → List ℕ → ℕ
read_from y [] = y
read_from y (d ∷ ds) = read_from (y * 10 + (d - 0x30)) ds

read_append : (y : ℕ) (s t : List ℕ) → read_from y (s ++ t) ≡ read_from (read_from y s) t
unfolding read_from
read_append y [] t = refl
read_append y (d ∷ s) t = read_append (y * 10 + (d - 0x30)) s t

pub record IsDecimal (x : ℕ) (s : List ℕ) : Type 0 where
  pub reads_back : read_from 0 s ≡ x
  pub no_leading_zero : 0 < x → 0x30 < get_or s 0 0
  pub all_digits : (i : ℕ) → i < length s → (0x30 ≤ get_or s i 0) × (get_or s i 0 ≤ 0x39)

form_low : (x : ℕ) → x < 10 → IsDecimal x (digit x ∷ [])
unfolding digit read_from
form_low x h = record {
  reads_back = omega arith;
  no_leading_zero = λ l. omega arith;
  all_digits = one;
}
  where
    one : (i : ℕ) → i < 1 → (0x30 ≤ get_or ((0x30 + x) ∷ []) i 0) × (get_or ((0x30 + x) ∷ []) i 0 ≤ 0x39)
    one zero l = (omega arith, omega arith)
    one (suc i) l = absurd (not-suc-le-zero (le_of_suc-le-suc l))

form_high : (x : ℕ) → 10 ≤ x → IsDecimal (x / 10) (decimal (x / 10)) → IsDecimal x (decimal (x / 10) ++ (digit (x % 10) ∷ []))
unfolding digit read_from
form_high x h tens = record {
  reads_back = read_append 0 s (d ∷ []) ∙ rw tens.reads_back (omega (arith, div-add-mod' x 10));
  no_leading_zero = λ l. rw (get_or-append s (d ∷ []) 0 0 (decimal_some (x / 10))) (tens.no_leading_zero (omega (arith, div-add-mod' x 10, is_digit)));
  all_digits = λ i l. either i (eq-or-lt_of_le (le_of_suc-le-suc (rw (length-append s (d ∷ []), add-one) at l)));
}
  where
    s : List ℕ
    s = decimal (x / 10)

    d : ℕ
    d = 0x30 + x % 10

    is_digit : x % 10 < 10
    is_digit = mod-lt x (omega arith)

    either : (i : ℕ) → (i ≡ length s) ⊎ (i < length s) → (0x30 ≤ get_or (s ++ (d ∷ [])) i 0) × (get_or (s ++ (d ∷ [])) i 0 ≤ 0x39)
    either i (inl e) = rw (get_or_at s d [] 0 i (sym e)) (omega arith, omega (arith, is_digit))
    either i (inr l) = rw (get_or-append s (d ∷ []) 0 i l) (tens.all_digits i l)

pub decimal_is : (x : ℕ) → IsDecimal x (decimal x)
decimal_is x = by_digits IsDecimal form_low form_high x
