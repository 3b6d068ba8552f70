-- Packed words, and the tables in which SubBytes and MixColumns are looked up. FIPS 197, whose sections (§) are named.
use Rattle.std.specs.Prelude.{ℕ, ◌+◌, ◌*◌, ◌/◌, ◌%◌, ◌^◌, ◌<◌, ◌≡◌, cond, List, ◌++◌, eqb, get_or}
use Rattle.std.specs.Coded.{Π_prop, →_prop, Coded-set, coded_list, coded_ℕ}
use Rattle.model.specs.Bytes.{tabulate}
use Rattle.model.specs.Aes.{Block, s_box, mix_word}
use Rattle.aes.specs.declared.packed.Words.{Words}

-- row r of a packed word: row 0 is the lowest byte
abbrev pub byte_of : ℕ → ℕ → ℕ
byte_of x r = x / 2 ^ (8 * r) % 256

-- the word that is packed in a number, §3.5
unfoldable pub word_of : ℕ → List ℕ
word_of x = tabulate 4 (byte_of x)

-- the state of four packed columns, §3.4
unfoldable pub state_of : Words → Block
state_of s = word_of s.a ++ word_of s.b ++ word_of s.c ++ word_of s.d

-- the column with the byte s in row r and 0 in the other rows
abbrev pub alone : ℕ → ℕ → List ℕ
alone r s = tabulate 4 (λ i. cond (eqb i r) s 0)

-- four tables of 256 packed words: entry x of table r is what MixColumns makes of the S-box's byte for x, alone in row r (§5.1.1, §5.1.3)
unfoldable pub IsTTables : List ℕ → Type 0
IsTTables m = (r x : ℕ) → r < 4 → x < 256 → word_of (get_or m (256 * r + x) 0) ≡ mix_word (alone r (s_box x))

-- a fact of tables, and so one that a struct may keep of them
pub IsTTables-prop : (m : List ℕ) → IsProp (IsTTables m)
unfolding IsTTables
IsTTables-prop m = Π_prop (λ r. Π_prop (λ x. →_prop (→_prop (Coded-set (coded_list coded_ℕ) _ _))))
