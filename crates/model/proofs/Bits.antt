-- Numbers that are 0 or 1, for proofs by cases: truth values and colours. Assumes nothing.
use Prim.Native.Nat.{ℕ, zero, suc, ◌*◌, ◌-◌, ◌%◌, ◌≤◌}
use native.Mathlib.Omega.{arith}
use mathlib.Core.Path.{◌≡◌, refl}
use mathlib.Core.Bool.{Bool, true, false, cond}
use lib.Bits.{differ}

pub data Bit : ℕ → Type 0 where
  b0 : Bit 0
  b1 : Bit 1

pub bit_of : (x : ℕ) → x ≤ 1 → Bit x
bit_of zero h = b0
bit_of (suc zero) h = b1
bit_of (suc (suc x)) h = absurd (omega arith)

pub bit_small : {x : ℕ} → Bit x → x ≤ 1
bit_small b0 = omega arith
bit_small b1 = omega arith

pub bit_mod : (x : ℕ) → Bit (x % 2)
bit_mod x = bit_of (x % 2) (omega arith)

pub bit_other : {x : ℕ} → Bit x → Bit (1 - x)
bit_other b0 = b1
bit_other b1 = b0

pub bit_differ : {x y : ℕ} → Bit x → Bit y → Bit (differ x y)
bit_differ b0 q = q
bit_differ b1 b0 = b1
bit_differ b1 b1 = b0

pub bit_product : {x y : ℕ} → Bit x → Bit y → Bit (x * y)
bit_product b0 b0 = b0
bit_product b0 b1 = b0
bit_product b1 b0 = b0
bit_product b1 b1 = b1

-- ⊕ the same bit twice, from either side
pub differ_twice : {x y : ℕ} → Bit x → Bit y → differ x (differ x y) ≡ y
differ_twice b0 b0 = refl
differ_twice b0 b1 = refl
differ_twice b1 b0 = refl
differ_twice b1 b1 = refl

pub differ_back : {x y : ℕ} → Bit x → Bit y → differ (differ x y) x ≡ y
differ_back b0 b0 = refl
differ_back b0 b1 = refl
differ_back b1 b0 = refl
differ_back b1 b1 = refl

-- ---- 0 where something holds, else 1

pub told_low : (b : Bool) → cond b 0 1 ≤ 1
told_low true = omega arith
told_low false = omega arith

pub told_yes : (b : Bool) → ◌≡◌ {A = ℕ} (cond b 0 1) 0 → b ≡ true
told_yes true e = refl
told_yes false e = absurd (omega (arith, e))

pub told_no : (b : Bool) → (◌≡◌ {A = ℕ} (cond b 0 1) 0 → ⊥) → b ≡ false
told_no true n = absurd (n refl)
told_no false n = refl
