-- Words packed in numbers, row 0 lowest: their bytes, masks, and exclusive or. Assumes nothing.
use mathlib.Core.Path.{◌≡◌, refl, sym, ap, ◌∙◌}
use mathlib.Core.List.{List, [], ◌∷◌}
use Prim.Native.Nat.{ℕ, ◌*◌, ◌/◌, ◌%◌, ◌^◌, ◌<◌}
use native.Mathlib.Omega.{arith}
use lib.Bits.{bit_and, bit_xor, and_shr, and_mod, and_mask, and_zero_r, xor_shr, xor_mod, xor_zero_r}
use lib.ListN.{length, get_or}
use Rattle.std.specs.Int.{w32, from_le_bytes, to_le_bytes}
use Rattle.std.proofs.lemmas.Nat.{le_bytes_4}
use Rattle.model.specs.Aes.{xor_word}
use Rattle.aes.specs.Tables.{byte_of, word_of}

pub four : {a b c d a' b' c' d' : ℕ} → a ≡ a' → b ≡ b' → c ≡ c' → d ≡ d' → ◌≡◌ {A = List ℕ} (a ∷ b ∷ c ∷ d ∷ []) (a' ∷ b' ∷ c' ∷ d' ∷ [])
four p q r s = cc

-- the bytes of a word, as std has them
pub bytes : (x : ℕ) → to_le_bytes w32 x ≡ word_of x
unfolding word_of
bytes x = four (omega arith) refl refl refl

-- and a word of four bytes
pub packed : (b : List ℕ) (x : ℕ) → length b ≡ 4 → ((i : ℕ) → get_or b i 0 < 256) → x ≡ from_le_bytes w32 b → word_of x ≡ b
packed b x l fits e = sym (bytes x) ∙ le_bytes_4 b x l fits e

byte_xor : (x y r : ℕ) → byte_of (bit_xor x y) r ≡ bit_xor (byte_of x r) (byte_of y r)
byte_xor x y r = ap (λ (n : ℕ). n % 256) (xor_shr x y (8 * r)) ∙ xor_mod (x / 2 ^ (8 * r)) (y / 2 ^ (8 * r)) 8

byte_and : (x y r : ℕ) → byte_of (bit_and x y) r ≡ bit_and (byte_of x r) (byte_of y r)
byte_and x y r = ap (λ (n : ℕ). n % 256) (and_shr x y (8 * r)) ∙ and_mod (x / 2 ^ (8 * r)) (y / 2 ^ (8 * r)) 8

pub word_xor : (x y : ℕ) → word_of (bit_xor x y) ≡ xor_word (word_of x) (word_of y)
unfolding word_of
word_xor x y = four (byte_xor x y 0) (byte_xor x y 1) (byte_xor x y 2) (byte_xor x y 3)

-- a byte that a mask keeps, and one that it takes away
module _ (x k r : ℕ) where
  kept : byte_of k r ≡ 255 → byte_of (bit_and x k) r ≡ byte_of x r
  kept e = byte_and x k r ∙ ap (bit_and (byte_of x r)) e ∙ and_mask (byte_of x r) 8 ∙ omega arith

  gone : byte_of k r ≡ 0 → byte_of (bit_and x k) r ≡ 0
  gone e = byte_and x k r ∙ ap (bit_and (byte_of x r)) e ∙ and_zero_r (byte_of x r)

-- one row of a word, kept by its mask
module _ (x : ℕ) where
  row_0 : word_of (bit_and x 0xFF) ≡ byte_of x 0 ∷ 0 ∷ 0 ∷ 0 ∷ []
  unfolding word_of
  row_0 = four (kept x 0xFF 0 refl) (gone x 0xFF 1 refl) (gone x 0xFF 2 refl) (gone x 0xFF 3 refl)

  row_1 : word_of (bit_and x 0xFF00) ≡ 0 ∷ byte_of x 1 ∷ 0 ∷ 0 ∷ []
  unfolding word_of
  row_1 = four (gone x 0xFF00 0 refl) (kept x 0xFF00 1 refl) (gone x 0xFF00 2 refl) (gone x 0xFF00 3 refl)

  row_2 : word_of (bit_and x 0xFF0000) ≡ 0 ∷ 0 ∷ byte_of x 2 ∷ 0 ∷ []
  unfolding word_of
  row_2 = four (gone x 0xFF0000 0 refl) (gone x 0xFF0000 1 refl) (kept x 0xFF0000 2 refl) (gone x 0xFF0000 3 refl)

  row_3 : word_of (bit_and x 0xFF000000) ≡ 0 ∷ 0 ∷ 0 ∷ byte_of x 3 ∷ []
  unfolding word_of
  row_3 = four (gone x 0xFF000000 0 refl) (gone x 0xFF000000 1 refl) (gone x 0xFF000000 2 refl) (kept x 0xFF000000 3 refl)

-- the exclusive or of four words
abbrev pub xor4 : List ℕ → List ℕ → List ℕ → List ℕ → List ℕ
xor4 a b c d = xor_word (xor_word (xor_word a b) c) d

pub xor4_each : {a b c d a' b' c' d' : List ℕ} → a ≡ a' → b ≡ b' → c ≡ c' → d ≡ d' → xor4 a b c d ≡ xor4 a' b' c' d'
xor4_each p q r s = cc

pub words_xor4 : (a b c d : ℕ) → word_of (bit_xor (bit_xor (bit_xor a b) c) d) ≡ xor4 (word_of a) (word_of b) (word_of c) (word_of d)
words_xor4 a b c d = rw (word_xor (bit_xor (bit_xor a b) c) d, word_xor (bit_xor a b) c, word_xor a b)

-- a row of each of four words
pub picked : (a b c d : ℕ) → word_of (bit_xor (bit_xor (bit_xor (bit_and a 0xFF) (bit_and b 0xFF00)) (bit_and c 0xFF0000)) (bit_and d 0xFF000000)) ≡ byte_of a 0 ∷ byte_of b 1 ∷ byte_of c 2 ∷ byte_of d 3 ∷ []
picked a b c d =
    words_xor4 (bit_and a 0xFF) (bit_and b 0xFF00) (bit_and c 0xFF0000) (bit_and d 0xFF000000) ∙ xor4_each (row_0 a) (row_1 b) (row_2 c) (row_3 d)
    ∙ four (simp xor_zero_r) (simp xor_zero_r) (xor_zero_r (byte_of c 2)) refl
