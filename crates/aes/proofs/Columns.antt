-- The steps of a round on a state of four packed columns. Assumes nothing.
use mathlib.Core.Path.{◌≡◌, sym, ap, ◌∙◌}
use mathlib.Core.List.{List, [], ◌∷◌, ◌++◌}
use Prim.Native.Nat.{ℕ, ◌+◌, ◌*◌, ◌<◌}
use native.Mathlib.Omega.{arith}
use lib.Bits.{bit_xor}
use lib.ListN.{get_or, length}
use Rattle.model.specs.Aes.{Block, ◌⊕◌, sub_bytes, shift_rows, column, mix_word, mix_columns, round_key, word, sub_word}
use Rattle.model.proofs.Lists.{entry, elements}
use Rattle.aes.specs.declared.packed.Words.{Words}
use Rattle.aes.specs.Tables.{byte_of, word_of, state_of}
use Rattle.aes.specs.Round.{IsRoundKey}
use Rattle.aes.proofs.Packing.{four, word_xor}

abbrev joined : List ℕ → List ℕ → List ℕ → List ℕ → Block
joined a b c d = a ++ b ++ c ++ d

join : {a b c d a' b' c' d' : List ℕ} → a ≡ a' → b ≡ b' → c ≡ c' → d ≡ d' → joined a b c d ≡ joined a' b' c' d'
join p q r s = cc

abbrev pub state : ℕ → ℕ → ℕ → ℕ → Block
state a b c d = joined (word_of a) (word_of b) (word_of c) (word_of d)

-- the columns of a block
pub loaded : (s : Block) (a b c d : ℕ) → length s ≡ 16 → word_of a ≡ get_or s 0 0 ∷ get_or s 1 0 ∷ get_or s 2 0 ∷ get_or s 3 0 ∷ [] →
    word_of b ≡ get_or s 4 0 ∷ get_or s 5 0 ∷ get_or s 6 0 ∷ get_or s 7 0 ∷ [] → word_of c ≡ get_or s 8 0 ∷ get_or s 9 0 ∷ get_or s 10 0 ∷ get_or s 11 0 ∷ [] →
    word_of d ≡ get_or s 12 0 ∷ get_or s 13 0 ∷ get_or s 14 0 ∷ get_or s 15 0 ∷ [] → state a b c d ≡ s
loaded s a b c d l p q r t = join p q r t ∙ elements 16 s l

-- the columns a, b, c and d after the steps, from those before
module _ (a b c d a' b' c' d' : ℕ) where
  pub mixed_state : word_of a' ≡ mix_word (sub_word (byte_of a 0 ∷ byte_of b 1 ∷ byte_of c 2 ∷ byte_of d 3 ∷ [])) →
      word_of b' ≡ mix_word (sub_word (byte_of b 0 ∷ byte_of c 1 ∷ byte_of d 2 ∷ byte_of a 3 ∷ [])) →
      word_of c' ≡ mix_word (sub_word (byte_of c 0 ∷ byte_of d 1 ∷ byte_of a 2 ∷ byte_of b 3 ∷ [])) →
      word_of d' ≡ mix_word (sub_word (byte_of d 0 ∷ byte_of a 1 ∷ byte_of b 2 ∷ byte_of c 3 ∷ [])) →
      state a' b' c' d' ≡ mix_columns (shift_rows (sub_bytes (state a b c d)))
  unfolding mix_columns shift_rows sub_bytes sub_word mix_word word_of
  mixed_state p q r s = join p q r s

  pub shifted_state : word_of a' ≡ sub_word (byte_of a 0 ∷ byte_of b 1 ∷ byte_of c 2 ∷ byte_of d 3 ∷ []) →
      word_of b' ≡ sub_word (byte_of b 0 ∷ byte_of c 1 ∷ byte_of d 2 ∷ byte_of a 3 ∷ []) →
      word_of c' ≡ sub_word (byte_of c 0 ∷ byte_of d 1 ∷ byte_of a 2 ∷ byte_of b 3 ∷ []) →
      word_of d' ≡ sub_word (byte_of d 0 ∷ byte_of a 1 ∷ byte_of b 2 ∷ byte_of c 3 ∷ []) →
      state a' b' c' d' ≡ shift_rows (sub_bytes (state a b c d))
  unfolding shift_rows sub_bytes sub_word word_of
  shifted_state p q r s = join p q r s

-- column c of a round key
key_column : (w : List ℕ) (r c : ℕ) → c < 4 → word w (4 * r + c) ≡ column (round_key w r) c
unfolding round_key
key_column w r c h =
    let byte : (j : ℕ) → j < 4 → get_or w (4 * (4 * r + c) + j) 0 ≡ get_or (round_key w r) (j + 4 * c) 0 =
    λ j l. ap (λ (n : ℕ). get_or w n 0) (omega arith) ∙ sym (entry 0 16 (λ i. get_or w (16 * r + i) 0) (j + 4 * c) (omega arith)) in
    four (byte 0 (omega arith)) (byte 1 (omega arith)) (byte 2 (omega arith)) (byte 3 (omega arith))

-- a state with another exclusive-ored in
pub added_state : (a b c d p q s t : ℕ) → state (bit_xor a p) (bit_xor b q) (bit_xor c s) (bit_xor d t) ≡ state a b c d ⊕ state p q s t
unfolding ◌⊕◌ word_of
added_state a b c d p q s t = join (word_xor a p) (word_xor b q) (word_xor c s) (word_xor d t)

-- the round key of four packed words
pub key_state : (w : List ℕ) (r : ℕ) (k : Words) → IsRoundKey w r k → state_of k ≡ round_key w r
unfolding state_of round_key
key_state w r k is_k =
    let e : 4 * r ≡ 4 * r + 0 = omega arith in
    join (is_k.is_a ∙ ap (word w) e ∙ key_column w r 0 (omega arith)) (is_k.is_b ∙ key_column w r 1 (omega arith))
    (is_k.is_c ∙ key_column w r 2 (omega arith)) (is_k.is_d ∙ key_column w r 3 (omega arith))
