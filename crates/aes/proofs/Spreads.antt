-- A round but the last: the key, and then what each column gives to those after it. Assumes nothing.
use mathlib.Core.Path.{◌≡◌, ap, ◌∙◌}
use mathlib.Core.List.{List}
use Prim.Native.Nat.{ℕ, ◌+◌, ◌%◌}
use lib.Bits.{bit_xor}
use lib.ListN.{get_or}
use Rattle.model.specs.Aes.{Block, ◌⊕◌, sub_bytes, shift_rows, mix_columns}
use Rattle.model.proofs.XorRules.{sums}
use Rattle.aes.specs.declared.packed.Words.{Words}
use Rattle.aes.specs.Tables.{byte_of, state_of, IsTTables}
use Rattle.aes.specs.Round.{Spread}
use Rattle.aes.proofs.Tables.{turn, mixed_word}
use Rattle.aes.proofs.Columns.{mixed_state, added_state}

-- the first of five, last
key_last : (k p q r s : ℕ) → bit_xor (bit_xor (bit_xor (bit_xor k p) q) r) s ≡ bit_xor (bit_xor (bit_xor (bit_xor p q) r) s) k
key_last k p q r s = simp sums

module _ (m : List ℕ) where
  -- row i of a column x, looked up
  abbrev t0 : ℕ → ℕ
  t0 x = get_or m (x % 256) 0

  abbrev t1 : ℕ → ℕ
  t1 x = get_or m (256 + byte_of x 1) 0

  abbrev t2 : ℕ → ℕ
  t2 x = get_or m (512 + byte_of x 2) 0

  abbrev t3 : ℕ → ℕ
  t3 x = get_or m (768 + byte_of x 3) 0

  -- the column whose rows come from the columns a, b, c and d
  abbrev pub made : ℕ → ℕ → ℕ → ℕ → ℕ
  made a b c d = bit_xor (bit_xor (bit_xor (t0 a) (t1 b)) (t2 c)) (t3 d)

  -- each column has its look-ups in the order in which the columns before it came
  from_0 : (y a b c d : ℕ) → bit_xor (bit_xor (bit_xor (bit_xor y (t0 a)) (t1 b)) (t2 c)) (t3 d) ≡ bit_xor (made a b c d) y
  from_0 y a b c d = key_last y (t0 a) (t1 b) (t2 c) (t3 d)

  from_3 : (y a b c d : ℕ) → bit_xor (bit_xor (bit_xor (bit_xor y (t3 d)) (t0 a)) (t1 b)) (t2 c) ≡ bit_xor (made a b c d) y
  from_3 y a b c d = key_last y (t3 d) (t0 a) (t1 b) (t2 c) ∙ ap (λ (z : ℕ). bit_xor z y) (turn (t3 d) (t0 a) (t1 b) (t2 c))

  from_2 : (y a b c d : ℕ) → bit_xor (bit_xor (bit_xor (bit_xor y (t2 c)) (t3 d)) (t0 a)) (t1 b) ≡ bit_xor (made a b c d) y
  from_2 y a b c d =
      key_last y (t2 c) (t3 d) (t0 a) (t1 b)
      ∙ ap (λ (z : ℕ). bit_xor z y) (turn (t2 c) (t3 d) (t0 a) (t1 b) ∙ turn (t3 d) (t0 a) (t1 b) (t2 c))

  from_1 : (y a b c d : ℕ) → bit_xor (bit_xor (bit_xor (bit_xor y (t1 b)) (t2 c)) (t3 d)) (t0 a) ≡ bit_xor (made a b c d) y
  from_1 y a b c d =
      key_last y (t1 b) (t2 c) (t3 d) (t0 a)
      ∙ ap (λ (z : ℕ). bit_xor z y) (turn (t1 b) (t2 c) (t3 d) (t0 a) ∙ turn (t2 c) (t3 d) (t0 a) (t1 b) ∙ turn (t3 d) (t0 a) (t1 b) (t2 c))

  -- the columns s, looked up one after the other, into the words k
  module _ (s k p q u v : Words) (one : Spread m k s.a p) (two : Spread m p s.b q) (three : Spread m q s.c u) (four : Spread m u s.d v) where
    pub is_a : v.a ≡ bit_xor (made s.a s.b s.c s.d) k.a
    is_a = rw (four.row_3, three.row_2, two.row_1, one.row_0) (from_0 k.a s.a s.b s.c s.d)

    pub is_b : v.b ≡ bit_xor (made s.b s.c s.d s.a) k.b
    is_b = rw (four.row_2, three.row_1, two.row_0, one.row_3) (from_3 k.b s.b s.c s.d s.a)

    pub is_c : v.c ≡ bit_xor (made s.c s.d s.a s.b) k.c
    is_c = rw (four.row_1, three.row_0, two.row_3, one.row_2) (from_2 k.c s.c s.d s.a s.b)

    pub is_d : v.d ≡ bit_xor (made s.d s.a s.b s.c) k.d
    is_d = rw (four.row_0, three.row_3, two.row_2, one.row_1) (from_1 k.d s.d s.a s.b s.c)

  -- and the words k are a round's key
  pub keyed_round : IsTTables m → (s k v : Words)
      → v.a ≡ bit_xor (made s.a s.b s.c s.d) k.a
      → v.b ≡ bit_xor (made s.b s.c s.d s.a) k.b
      → v.c ≡ bit_xor (made s.c s.d s.a s.b) k.c
      → v.d ≡ bit_xor (made s.d s.a s.b s.c) k.d
      → state_of v ≡ mix_columns (shift_rows (sub_bytes (state_of s))) ⊕ state_of k
  unfolding state_of
  keyed_round is_m s k v a b c d =
      rw (a, b, c, d)
      (added_state _ _ _ _ k.a k.b k.c k.d
      ∙ ap (λ (x : Block). x ⊕ state_of k)
      (mixed_state s.a s.b s.c s.d _ _ _ _ (mixed_word m is_m s.a s.b s.c s.d)
      (mixed_word m is_m s.b s.c s.d s.a) (mixed_word m is_m s.c s.d s.a s.b)
      (mixed_word m is_m s.d s.a s.b s.c)))

-- a round whose columns are spread into its key
pub round_state : (m : List ℕ) → IsTTables m → (s k p q u v : Words) →
    Spread m k s.a p → Spread m p s.b q → Spread m q s.c u → Spread m u s.d v → state_of v ≡ mix_columns (shift_rows (sub_bytes (state_of s))) ⊕ state_of k
round_state m is_m s k p q u v one two three four =
    keyed_round m is_m s k v (is_a m s k p q u v one two three four) (is_b m s k p q u v one two three four)
    (is_c m s k p q u v one two three four) (is_d m s k p q u v one two three four)
