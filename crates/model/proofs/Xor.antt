-- Laws of exclusive or, on numbers and on blocks. Assumes nothing.
use mathlib.Core.Path.{◌≡◌, refl, sym, ap, ap₂, ◌∙◌}
use Prim.Native.Nat.{ℕ, zero, suc, ◌+◌, ◌*◌, ◌/◌, ◌%◌, ◌<◌}
use native.Mathlib.Nat.{mod-lt, zero-lt-suc}
use native.Mathlib.Omega.{arith}
use lib.Arith.{bin_ind}
use lib.Bits.{bit_xor, differ, xor_step, xor_shr, xor_mod, xor_self, xor_zero_r, xor_comm}
use lib.ListN.{get_or, length}
use Rattle.model.specs.Bytes.{from, tabulate, bytes_of}
use Rattle.model.specs.Aes.{Block, ◌⊕◌, block}
use Rattle.model.proofs.Lists.{from_cong, elements, tabulate_length}

-- ---- numbers

digit : (x : ℕ) → x % 2 < 2
digit x = mod-lt x (zero-lt-suc 1)

differ_assoc : (x y z : ℕ) → x < 2 → y < 2 → z < 2 → differ (differ x y) z ≡ differ x (differ y z)
differ_assoc zero y z hx hy hz = refl
differ_assoc (suc zero) zero z hx hy hz = refl
differ_assoc (suc zero) (suc zero) zero hx hy hz = refl
differ_assoc (suc zero) (suc zero) (suc zero) hx hy hz = refl
differ_assoc (suc zero) (suc zero) (suc (suc z)) hx hy hz = absurd (omega arith)
differ_assoc (suc zero) (suc (suc y)) z hx hy hz = absurd (omega arith)
differ_assoc (suc (suc x)) y z hx hy hz = absurd (omega arith)

pub xor_digit : (x y : ℕ) → x < 2 → y < 2 → bit_xor x y ≡ differ x y
xor_digit zero y hx hy = refl
xor_digit (suc zero) zero hx hy = refl
xor_digit (suc zero) (suc zero) hx hy = refl
xor_digit (suc zero) (suc (suc y)) hx hy = absurd (omega arith)
xor_digit (suc (suc x)) y hx hy = absurd (omega arith)

-- the lowest digit
pub xor_odd : (a b : ℕ) → bit_xor a b % 2 ≡ differ (a % 2) (b % 2)
xor_odd a b = xor_mod a b 1 ∙ xor_digit (a % 2) (b % 2) (digit a) (digit b)

pub xor_assoc : (a b c : ℕ) → bit_xor (bit_xor a b) c ≡ bit_xor a (bit_xor b c)
xor_assoc =
    bin_ind (λ (n : ℕ). (b c : ℕ) → bit_xor (bit_xor n b) c ≡ bit_xor n (bit_xor b c)) (λ b c. refl)
    (λ n ih b c. xor_step (bit_xor n b) c
    ∙ ap₂ (λ (x y : ℕ). bit_xor x (c / 2) * 2 + differ y (c % 2)) (xor_shr n b 1) (xor_odd n b)
    ∙ ap₂ (λ (x y : ℕ). x * 2 + y) (ih (b / 2) (c / 2)) (differ_assoc (n % 2) (b % 2) (c % 2) (digit n) (digit b) (digit c))
    ∙ sym (xor_step n (bit_xor b c) ∙ ap₂ (λ (x y : ℕ). bit_xor (n / 2) x * 2 + differ (n % 2) y) (xor_shr b c 1) (xor_odd b c)))

-- ---- blocks

pub ⊕_length : (a b : Block) → length (a ⊕ b) ≡ 16
unfolding ◌⊕◌
⊕_length a b = tabulate_length 16 (λ i. bit_xor (get_or a i 0) (get_or b i 0))

pub ⊕_assoc : (a b c : Block) → (a ⊕ b) ⊕ c ≡ a ⊕ (b ⊕ c)
unfolding ◌⊕◌
⊕_assoc a b c =
    from_cong 0 16 (λ i. bit_xor (bit_xor (get_or a i 0) (get_or b i 0)) (get_or c i 0)) (λ i. bit_xor (get_or a i 0) (bit_xor (get_or b i 0) (get_or c i 0)))
    (λ i h. xor_assoc (get_or a i 0) (get_or b i 0) (get_or c i 0))

pub ⊕_comm : (a b : Block) → a ⊕ b ≡ b ⊕ a
unfolding ◌⊕◌
⊕_comm a b = from_cong 0 16 (λ i. bit_xor (get_or a i 0) (get_or b i 0)) (λ i. bit_xor (get_or b i 0) (get_or a i 0)) (λ i h. xor_comm (get_or a i 0) (get_or b i 0))

pub ⊕_self : (a : Block) → a ⊕ a ≡ block 0
unfolding ◌⊕◌ block bytes_of
⊕_self a = from_cong 0 16 (λ i. bit_xor (get_or a i 0) (get_or a i 0)) (λ i. 0) (λ i h. xor_self (get_or a i 0))

none : (i n k : ℕ) → ◌≡◌ {A = ℕ} (get_or (from k n (λ j. 0)) i 0) 0
none i zero k = refl
none zero (suc n) k = refl
none (suc i) (suc n) k = none i n (suc k)

pub ⊕_zero : (a : Block) → length a ≡ 16 → a ⊕ block 0 ≡ a
unfolding ◌⊕◌ block bytes_of
⊕_zero a h =
    from_cong 0 16 (λ i. bit_xor (get_or a i 0) (get_or (tabulate 16 (λ j. 0)) i 0)) (λ i. get_or a i 0)
    (λ i k. ap (bit_xor (get_or a i 0)) (none i 16 0) ∙ xor_zero_r (get_or a i 0))
    ∙ elements 16 a h
