-- Words shifted, bit by bit. Assumes nothing.
use mathlib.Core.Path.{◌≡◌, sym, ap, ap₂, ◌∙◌}
use Prim.Native.Nat.{ℕ, zero, suc, ◌+◌, ◌*◌, ◌/◌, ◌%◌, ◌^◌, ◌<◌}
use native.Mathlib.Omega.{arith}
use native.Mathlib.Nat.{div-div-eq-div-mul, div-eq_of_lt, mul-div-mul_left, mul-div_cancel, mul-mod_left, mul_assoc, mul_comm, pow-suc}
use lib.Pow.{pow-add, pow_pos}
use lib.Bits.{bit_and, and_mask}
use Rattle.model.specs.Aes.{bit}
use Rattle.planes.proofs.Lanes.{bit_and_law, bit_lt, bit_zero, and_one, ones, all_ones}

-- l below s, or from s on
pub data Cut (s l : ℕ) : Type 0 where
  before : (d : ℕ) → s ≡ l + suc d → Cut s l
  after : (k : ℕ) → l ≡ s + k → Cut s l

pub cut : (s l : ℕ) → Cut s l
cut zero l = after l (omega arith)
cut (suc s) zero = before s (omega arith)
cut (suc s) (suc l) = more (cut s l)
  where
    more : Cut s l → Cut (suc s) (suc l)
    more (before d e) = before d (omega arith)
    more (after k e) = after k (omega arith)

positive : (n : ℕ) → 0 < 2 ^ n
positive n = omega (arith, pow_pos n)

pub bit_right : (x n l : ℕ) → bit (x / 2 ^ n) l ≡ bit x (n + l)
unfolding bit
bit_right x n l = ap (λ (y : ℕ). y % 2) (div-div-eq-div-mul x (2 ^ n) (2 ^ l) ∙ ap (λ (y : ℕ). x / y) (sym (pow-add 2 n l)))

pub bit_past : (x k : ℕ) → x < 2 ^ 64 → bit x (64 + k) ≡ 0
bit_past x k h = sym (bit_right x 64 k) ∙ ap (λ (y : ℕ). bit y k) (div-eq_of_lt h) ∙ bit_zero k

pub bit_left_after : (x s k : ℕ) → bit (x * 2 ^ s) (s + k) ≡ bit x k
unfolding bit
bit_left_after x s k =
    ap (λ (y : ℕ). y % 2) (ap₂ (λ (y z : ℕ). y / z) (mul_comm x (2 ^ s)) (pow-add 2 s k) ∙ mul-div-mul_left x (2 ^ k) (positive s))

pub bit_left_before : (x l d : ℕ) → bit (x * 2 ^ (l + suc d)) l ≡ 0
unfolding bit
bit_left_before x l d =
    let e : x * 2 ^ (l + suc d) ≡ x * 2 ^ suc d * 2 ^ l =
    ap (λ (y : ℕ). x * y) (pow-add 2 l (suc d) ∙ mul_comm (2 ^ l) (2 ^ suc d)) ∙ sym (mul_assoc x (2 ^ suc d) (2 ^ l)) in
    ap (λ (y : ℕ). y / 2 ^ l % 2) e ∙ ap (λ (y : ℕ). y % 2) (mul-div_cancel (x * 2 ^ suc d) (positive l))
    ∙ ap (λ (y : ℕ). y % 2) (ap (λ (y : ℕ). x * y) (pow-suc 2 d) ∙ sym (mul_assoc x (2 ^ d) 2)) ∙ mul-mod_left (x * 2 ^ d) 2

-- what is shifted out at the top is lost
pub bit_within : (y l : ℕ) → l < 64 → bit (y % 2 ^ 64) l ≡ bit y l
bit_within y l h =
    ap (λ (z : ℕ). bit z l) (sym (and_mask y 64)) ∙ bit_and_law y ones l ∙ ap (bit_and (bit y l)) (all_ones l h) ∙ and_one (bit y l) (bit_lt y l)
