-- The tables of a round: their rule, and a column looked up in them. Assumes nothing.
use mathlib.Core.Path.{◌≡◌, refl, sym, ap, ap₂, ◌∙◌}
use mathlib.Core.List.{List, [], ◌∷◌, map}
use Prim.Native.Nat.{ℕ, ◌+◌, ◌*◌, ◌/◌, ◌%◌, ◌^◌, ◌<◌}
use native.Mathlib.Omega.{arith}
use lib.Bits.{bit_and, bit_xor, xor_zero_r}
use lib.ListN.{get_or, get_or-map}
use Rattle.model.specs.Bytes.{tabulate}
use Rattle.model.specs.Aes.{xtime, mul_bits, gmul, s_box, mix_byte, mix_word, sub_word}
use Rattle.model.proofs.Lists.{entry}
use Rattle.model.proofs.XorRules.{sums}
use Rattle.aes.specs.Tables.{byte_of, word_of, alone, IsTTables}
use Rattle.model.proofs.Mix.{mix_sum}
use Rattle.aes.proofs.Packing.{four, xor4, xor4_each, words_xor4, picked}

-- ---- the tables

-- MixColumns of a column, with products by {02} and {03} as in `Mix`: quicker to compute
abbrev quick_byte : ℕ → ℕ → ℕ → ℕ → ℕ
quick_byte a b c d = bit_xor (bit_xor (bit_xor (xtime a) (bit_xor (xtime b) b)) c) d

abbrev quick_word : List ℕ → List ℕ
quick_word w = tabulate 4 (λ r. quick_byte (get_or w r 0) (get_or w ((r + 1) % 4) 0) (get_or w ((r + 2) % 4) 0) (get_or w ((r + 3) % 4) 0))

quick_is : (w : List ℕ) → quick_word w ≡ mix_word w
unfolding mix_word
quick_is w =
    let byte : (a b c d : ℕ) → quick_byte a b c d ≡ mix_byte a b c d = λ a b c d. sym (mix_sum a b c d) in
    four (byte _ _ _ _) (byte _ _ _ _) (byte _ _ _ _) (byte _ _ _ _)

-- the S-box's byte for x, as it stands in table 0
abbrev byte_in : List ℕ → ℕ → ℕ
byte_in m x = byte_of (get_or m x 0) 1

-- two comparisons, entry by entry: the bytes in table 0 with the S-box's rule, and all entries with what MixColumns makes of these bytes
module _ (m : List ℕ) (bytes : tabulate 256 (byte_in m) ≡ tabulate 256 s_box)
    (columns : map word_of m ≡ tabulate 1024 (λ k. quick_word (alone (k / 256) (byte_in m (k % 256))))) where
  byte_holds : (x : ℕ) → x < 256 → byte_in m x ≡ s_box x
  byte_holds x h = sym (entry 0 256 (byte_in m) x h) ∙ ap (λ (l : List ℕ). get_or l x 0) bytes ∙ entry 0 256 s_box x h

  pub tables_hold : IsTTables m
  unfolding IsTTables
  tables_hold r x hr hx =
      let k : ℕ = 256 * r + x in
      let p : k / 256 ≡ r = omega arith in
      let q : k % 256 ≡ x = omega arith in
      sym (get_or-map word_of m k 0)
      ∙ ap (λ (l : List (List ℕ)). get_or l k (word_of 0)) columns
      ∙ entry (word_of 0) 1024 (λ k. quick_word (alone (k / 256) (byte_in m (k % 256)))) k (omega arith)
      ∙ quick_is (alone (k / 256) (byte_in m (k % 256)))
      ∙ ap₂ (λ (i y : ℕ). mix_word (alone i y)) p (ap (byte_in m) q ∙ byte_holds x hx)

-- ---- a column through SubBytes, ShiftRows and MixColumns

-- MixColumns of one byte, by the rows between it and the row that is made
two : (a : ℕ) → mix_byte a 0 0 0 ≡ gmul a 0x02
unfolding mix_byte gmul mul_bits xtime
two a = simp xor_zero_r

three : (a : ℕ) → mix_byte 0 a 0 0 ≡ gmul a 0x03
unfolding mix_byte gmul mul_bits xtime
three a = simp xor_zero_r

one : (a : ℕ) → mix_byte 0 0 a 0 ≡ a
unfolding mix_byte gmul mul_bits xtime
one a = xor_zero_r a

one_more : (a : ℕ) → mix_byte 0 0 0 a ≡ a
unfolding mix_byte gmul mul_bits xtime
one_more a = refl

each : {p q r s p' q' r' s' : ℕ} → p ≡ p' → q ≡ q' → r ≡ r' → s ≡ s' → bit_xor (bit_xor (bit_xor p q) r) s ≡ bit_xor (bit_xor (bit_xor p' q') r') s'
each e f g h = cc

-- the first of four, last
pub turn : (a b c d : ℕ) → bit_xor (bit_xor (bit_xor a b) c) d ≡ bit_xor (bit_xor (bit_xor b c) d) a
turn a b c d = simp sums

-- a column is the exclusive or of its rows, each alone, and MixColumns of it is that of theirs
mix_rows : (a b c d : ℕ) → xor4 (mix_word (alone 0 a)) (mix_word (alone 1 b)) (mix_word (alone 2 c)) (mix_word (alone 3 d)) ≡ mix_word (a ∷ b ∷ c ∷ d ∷ [])
unfolding mix_word mix_byte
mix_rows a b c d =
    four (each (two a) (three b) (one c) (one_more d))
    (each (one_more a) (two b) (three c) (one d) ∙ turn a (gmul b 0x02) (gmul c 0x03) d)
    (each (one a) (one_more b) (two c) (three d) ∙ turn a b (gmul c 0x02) (gmul d 0x03) ∙ turn b (gmul c 0x02) (gmul d 0x03) a)
    (each (three a) (one b) (one_more c) (two d) ∙ turn (gmul a 0x03) b c (gmul d 0x02) ∙ turn b c (gmul d 0x02) (gmul a 0x03) ∙ turn c (gmul d 0x02) (gmul a 0x03) b)

-- the four look-ups of a column, whose rows come from the words a, b, c and d
module _ (m : List ℕ) (is_m : IsTTables m) where
  look : (r x : ℕ) → r < 4 → x < 256 → word_of (get_or m (256 * r + x) 0) ≡ mix_word (alone r (s_box x))
  unfolding IsTTables
  look = is_m

  pub mixed_word : (a b c d : ℕ) →
      word_of (bit_xor (bit_xor (bit_xor (get_or m (a % 256) 0) (get_or m (256 + byte_of b 1) 0)) (get_or m (512 + byte_of c 2) 0)) (get_or m (768 + byte_of d 3) 0))
      ≡ mix_word (sub_word (byte_of a 0 ∷ byte_of b 1 ∷ byte_of c 2 ∷ byte_of d 3 ∷ []))
  unfolding sub_word
  mixed_word a b c d =
      let row : (r x : ℕ) → r < 4 → word_of (get_or m (256 * r + byte_of x r) 0) ≡ mix_word (alone r (s_box (byte_of x r))) = λ r x h. look r (byte_of x r) h (omega arith) in
      let first : a % 256 ≡ 256 * 0 + byte_of a 0 = omega arith in
      words_xor4 _ _ _ _
      ∙ xor4_each (ap (λ (n : ℕ). word_of (get_or m n 0)) first ∙ row 0 a (omega arith)) (row 1 b (omega arith)) (row 2 c (omega arith)) (row 3 d (omega arith))
      ∙ mix_rows (s_box (byte_of a 0)) (s_box (byte_of b 1)) (s_box (byte_of c 2)) (s_box (byte_of d 3))

  -- the same without MixColumns: the S-box's byte stands by itself in row 0 of table 2, row 1 of table 3, row 2 of table 0, row 3 of table 1
  pub shifted_word : (a b c d : ℕ) → d < 2 ^ 32 →
      word_of (bit_xor (bit_xor (bit_xor (bit_and (get_or m (512 + a % 256) 0) 0xFF) (bit_and (get_or m (768 + b / 0x100 % 256) 0) 0xFF00)) (bit_and (get_or m (c / 0x10000 % 256) 0) 0xFF0000)) (bit_and (get_or m (256 + d / 0x1000000) 0) 0xFF000000))
      ≡ sub_word (byte_of a 0 ∷ byte_of b 1 ∷ byte_of c 2 ∷ byte_of d 3 ∷ [])
  unfolding word_of mix_word sub_word
  shifted_word a b c d h =
      let e0 : 512 + a % 256 ≡ 256 * 2 + byte_of a 0 = omega arith in
      let e2 : c / 0x10000 % 256 ≡ 256 * 0 + byte_of c 2 = omega arith in
      let e3 : d / 0x1000000 ≡ byte_of d 3 = omega arith in
      let p0 : byte_of (get_or m (512 + a % 256) 0) 0 ≡ s_box (byte_of a 0) = ap (λ (n : ℕ). byte_of (get_or m n 0) 0) e0 ∙ ap (λ (w : List ℕ). get_or w 0 0) (look 2 (byte_of a 0) (omega arith) (omega arith)) ∙ one _ in
      let p1 : byte_of (get_or m (768 + b / 0x100 % 256) 0) 1 ≡ s_box (byte_of b 1) = ap (λ (w : List ℕ). get_or w 1 0) (look 3 (byte_of b 1) (omega arith) (omega arith)) ∙ one _ in
      let p2 : byte_of (get_or m (c / 0x10000 % 256) 0) 2 ≡ s_box (byte_of c 2) = ap (λ (n : ℕ). byte_of (get_or m n 0) 2) e2 ∙ ap (λ (w : List ℕ). get_or w 2 0) (look 0 (byte_of c 2) (omega arith) (omega arith)) ∙ one _ in
      let p3 : byte_of (get_or m (256 + d / 0x1000000) 0) 3 ≡ s_box (byte_of d 3) = ap (λ (n : ℕ). byte_of (get_or m (256 + n) 0) 3) e3 ∙ ap (λ (w : List ℕ). get_or w 3 0) (look 1 (byte_of d 3) (omega arith) (omega arith)) ∙ one _ in
      picked (get_or m (512 + a % 256) 0) (get_or m (768 + b / 0x100 % 256) 0) (get_or m (c / 0x10000 % 256) 0) (get_or m (256 + d / 0x1000000) 0) ∙ four p0 p1 p2 p3
