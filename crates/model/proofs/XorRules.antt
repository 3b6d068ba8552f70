-- Exclusive or of numbers, and of blocks, as rules for `simp`, which with them decides equations of such sums. Assumes nothing.
use mathlib.Core.Path.{◌≡◌, refl, sym, ap, ◌∙◌}
use Prim.Native.Nat.{ℕ}
use lib.Bits.{bit_xor, xor_self, xor_zero_l, xor_zero_r, xor_comm}
use lib.ListN.{length}
use Rattle.model.specs.Aes.{Block, ◌⊕◌, block, times}
use Rattle.model.proofs.Xor.{xor_assoc, ⊕_length, ⊕_assoc, ⊕_comm, ⊕_self, ⊕_zero}

-- ---- numbers

pub xor_left : (a b c : ℕ) → bit_xor a (bit_xor b c) ≡ bit_xor b (bit_xor a c)
xor_left a b c = sym (xor_assoc a b c) ∙ ap (λ (x : ℕ). bit_xor x c) (xor_comm a b) ∙ xor_assoc b a c

pub xor_self_left : (a b : ℕ) → bit_xor a (bit_xor a b) ≡ b
xor_self_left a b = sym (xor_assoc a a b) ∙ ap (λ (x : ℕ). bit_xor x b) (xor_self a) ∙ xor_zero_l b

pub ruleset sums = (xor_assoc, xor_comm, xor_left, xor_self, xor_self_left, xor_zero_l, xor_zero_r)

-- ---- blocks

pub ⊕_left : (a b c : Block) → a ⊕ (b ⊕ c) ≡ b ⊕ (a ⊕ c)
⊕_left a b c = sym (⊕_assoc a b c) ∙ ap (◌⊕ c) (⊕_comm a b) ∙ ⊕_assoc b a c

pub ⊕_self_left : (a b : Block) → a ⊕ (a ⊕ b) ≡ block 0 ⊕ b
⊕_self_left a b = sym (⊕_assoc a a b) ∙ ap (◌⊕ b) (⊕_self a)

pub zero_⊕ : (a : Block) → length a ≡ 16 → block 0 ⊕ a ≡ a
zero_⊕ a h = ⊕_comm (block 0) a ∙ ⊕_zero a h

-- no length is asked where an exclusive or is left
pub ⊕_zero_left : (a b : Block) → block 0 ⊕ (a ⊕ b) ≡ a ⊕ b
⊕_zero_left a b = zero_⊕ (a ⊕ b) (⊕_length a b)

pub ⊕_zero_middle : (a b : Block) → a ⊕ (block 0 ⊕ b) ≡ a ⊕ b
⊕_zero_middle a b = ⊕_left a (block 0) b ∙ ⊕_zero_left a b

pub ⊕_zero_right : (a b : Block) → a ⊕ (b ⊕ block 0) ≡ a ⊕ b
⊕_zero_right a b = ap (a ⊕◌) (⊕_comm b (block 0)) ∙ ⊕_zero_middle a b

pub ruleset xors = (⊕_assoc, ⊕_comm, ⊕_left, ⊕_self, ⊕_self_left, ⊕_zero_left, ⊕_zero_middle, ⊕_zero_right)

pub times_0 : (x : Block) → times 0 x ≡ block 0
unfolding times
times_0 x = refl

pub times_1 : (x : Block) → times 1 x ≡ x
unfolding times
times_1 x = refl

-- the same, with bits times blocks
pub ruleset xors_times = (times_0, times_1, xors)
