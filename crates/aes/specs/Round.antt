-- The parts of a round on packed columns: the round's key and the next, and what one column gives to those after it. FIPS 197, whose sections (§) are named.
use Rattle.std.specs.Prelude.{ℕ, ◌+◌, ◌*◌, ◌%◌, ◌≡◌, List, get_or}
use Rattle.std.specs.Int.Bits.{bit_xor}
use Rattle.model.specs.Aes.{word, xor_word, rot_word, sub_word}
use Rattle.aes.specs.declared.packed.Words.{Words}
use Rattle.aes.specs.Tables.{byte_of, word_of}

-- the four words of the key of round r of the schedule w, §5.2
pub record IsRoundKey (w : List ℕ) (r : ℕ) (k : Words) : Type 0 where
  pub is_a : word_of k.a ≡ word w (4 * r)
  pub is_b : word_of k.b ≡ word w (4 * r + 1)
  pub is_c : word_of k.c ≡ word w (4 * r + 2)
  pub is_d : word_of k.d ≡ word w (4 * r + 3)

-- q is the key of the round after that of k, by the round constant rc: "w[i-Nk] ⊕ temp" for the four words of a round, §5.2
pub record NextKey (k : Words) (rc : ℕ) (q : Words) : Type 0 where
  pub is_a : word_of q.a ≡ xor_word (word_of k.a) (xor_word (sub_word (rot_word (word_of k.d))) (word_of rc))
  pub is_b : word_of q.b ≡ xor_word (word_of k.b) (word_of q.a)
  pub is_c : word_of q.c ≡ xor_word (word_of k.c) (word_of q.b)
  pub is_d : word_of q.d ≡ xor_word (word_of k.d) (word_of q.c)

-- the column x, looked up in the tables m row by row, is exclusive-ored into the columns s, of which the first is its own; then the next comes first
pub record Spread (m : List ℕ) (s : Words) (x : ℕ) (q : Words) : Type 0 where
  pub row_0 : q.d ≡ bit_xor s.a (get_or m (x % 256) 0)
  pub row_1 : q.c ≡ bit_xor s.d (get_or m (256 + byte_of x 1) 0)
  pub row_2 : q.b ≡ bit_xor s.c (get_or m (512 + byte_of x 2) 0)
  pub row_3 : q.a ≡ bit_xor s.b (get_or m (768 + byte_of x 3) 0)
