-- The rounds of the cipher, one after the other. Assumes nothing.
use mathlib.Core.Path.{◌≡◌, sym, ap, ◌∙◌}
use mathlib.Core.List.{List}
use Prim.Native.Nat.{ℕ, suc, ◌+◌, ◌-◌, ◌<◌, ◌≤◌}
use native.Mathlib.Omega.{arith}
use lib.ListN.{length}
use Rattle.model.specs.Aes.{Block, ◌⊕◌, sub_bytes, shift_rows, mix_columns, add_round_key, aes_round, rounds, cipher, IsExpansion, key_expansion, fixed_key, aes, π}
use Rattle.model.proofs.Expansion.{expansion_only}
use Rattle.aes.specs.declared.packed.Words.{Words}
use Rattle.aes.specs.Tables.{state_of}
use Rattle.aes.specs.Round.{IsRoundKey}
use Rattle.aes.proofs.Columns.{key_state}

-- what holds of the state s before round r, when s₀ was the state before round 1: it is made from any block b that the first AddRoundKey takes
-- to s₀
pub record Through (w : List ℕ) (s₀ : Block) (r : ℕ) (s : Block) : Type 0 where
  pub past : 0 < r
  pub within : r ≤ 10
  pub state : (b : Block) → s₀ ≡ add_round_key w 0 b → s ≡ rounds w (r - 1) b

module _ {w : List ℕ} {s₀ : Block} where
  pub rounds_start : Through w s₀ 1 s₀
  unfolding rounds
  rounds_start = record { past = omega arith; within = omega arith; state = λ b k. k }

  pub rounds_turn : {r : ℕ} {s s' : Block} → Through w s₀ r s → s' ≡ aes_round w r s → r < 10 → Through w s₀ (r + 1) s'
  unfolding rounds
  rounds_turn {r} {s} {s'} inv e h =
      let p : suc (r - 1) ≡ r = omega (arith, inv.past) in
      let q : r + 1 - 1 ≡ suc (r - 1) = omega (arith, inv.past) in
      record {
        past = omega arith;
        within = omega arith;
        state = λ b k. rw q (e ∙ ap (λ (n : ℕ). aes_round w n s) (sym p) ∙ ap (aes_round w (suc (r - 1))) (inv.state b k));
      }

  pub rounds_end : {r : ℕ} {s z : Block} → Through w s₀ r s → 10 ≤ r → z ≡ add_round_key w 10 (shift_rows (sub_bytes s)) → (b : Block) → s₀ ≡ add_round_key w 0 b → z ≡ cipher w b
  unfolding cipher
  rounds_end {r} {s} {z} inv h e b k =
      let p : r - 1 ≡ 9 = omega (arith, inv.within) in
      e ∙ ap (λ (x : Block). add_round_key w 10 (shift_rows (sub_bytes x))) (inv.state b k ∙ ap (λ (n : ℕ). rounds w n b) p)

-- π is the cipher under the fixed key
pub by_fixed_key : (w : List ℕ) (b z : Block) → z ≡ cipher w b → w ≡ key_expansion fixed_key → z ≡ π b
unfolding aes π
by_fixed_key w b z e h = e ∙ ap (λ (k : List ℕ). cipher k b) h

-- the same under any key
pub by_key : {key : Block} {w : List ℕ} (b : Block) {z : Block} → z ≡ cipher w b → length key ≡ 16 → IsExpansion key w → z ≡ aes key b
unfolding aes
by_key b e l x = e ∙ ap (λ (k : List ℕ). cipher k b) (expansion_only l x)

-- ---- a round from its steps: a, b and c are the states between them

pub round_is : (w : List ℕ) (r : ℕ) (s a b c q : Block) → q ≡ add_round_key w r c → c ≡ mix_columns b → b ≡ shift_rows a → a ≡ sub_bytes s → q ≡ aes_round w r s
unfolding aes_round
round_is w r s a b c q is_q is_c is_b is_a = rw (is_q, is_c, is_b, is_a)

pub last_is : (w : List ℕ) (s a b q : Block) → q ≡ add_round_key w 10 b → b ≡ shift_rows a → a ≡ sub_bytes s → q ≡ add_round_key w 10 (shift_rows (sub_bytes s))
last_is w s a b q is_q is_b is_a = rw (is_q, is_b, is_a)

-- the same of packed columns, from the round's key k: a is the state after the steps before it

pub last_keyed : (s a b k q : Block) → q ≡ b → b ≡ a ⊕ k → a ≡ shift_rows (sub_bytes s) → q ≡ shift_rows (sub_bytes s) ⊕ k
last_keyed s a b k q is_q is_b is_a = rw (is_q, is_b, is_a)

-- which is that of round r in the schedule w
module _ (w : List ℕ) (r : ℕ) (k : Words) (is_k : IsRoundKey w r k) where
  pub added : (s q : Block) → q ≡ s ⊕ state_of k → q ≡ add_round_key w r s
  unfolding add_round_key
  added s q e = e ∙ ap (λ (x : Block). s ⊕ x) (key_state w r k is_k)

  pub round_keyed : (s q : Block) → q ≡ mix_columns (shift_rows (sub_bytes s)) ⊕ state_of k → q ≡ aes_round w r s
  unfolding aes_round
  round_keyed s q e = added _ q e
