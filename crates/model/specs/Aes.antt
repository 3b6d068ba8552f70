-- Document 01, "AES and doubling". AES-128 is that of FIPS 197, whose sections (§) are named.
use Rattle.std.specs.Prelude.{ℕ, zero, suc, ◌+◌, ◌-◌, ◌*◌, ◌/◌, ◌%◌, ◌^◌, ◌<◌, ◌≤◌, ◌≡◌, cond, List, [], ◌∷◌, ◌++◌, eqb, length, get_or}
use Rattle.std.specs.Int.Bits.{bit_xor}
use Rattle.model.specs.Bytes.{tabulate, number, bytes_of}

-- ---- blocks

-- "A block is 16 bytes."
abbrev pub Block : Type 0
Block = List ℕ

infixr 60 ◌⊕◌
-- "⊕ is exclusive or"
unfoldable pub ◌⊕◌ : Block → Block → Block
◌⊕◌ a b = tabulate 16 (λ i. bit_xor (get_or a i 0) (get_or b i 0))

-- "A number used as a block is its 16-byte big-endian form."
unfoldable pub block : ℕ → Block
block k = bytes_of 16 k

-- "A bit times a block is the block or zero." (01, Scheme 3)
unfoldable pub times : ℕ → Block → Block
times zero x = block 0
times (suc b) x = x

-- ---- GF(2^8), §4: bytes as polynomials modulo hex 11B

-- the byte times x (§4.2): shifted left, and hex 11B exclusive-ored in if bit 8 is then set
unfoldable pub xtime : ℕ → ℕ
xtime b = bit_xor (b * 2) (b / 128 * 0x11B)

-- the product of a and the number made of the low n bits of b
unfoldable pub mul_bits : ℕ → ℕ → ℕ → ℕ
mul_bits zero a b = 0
mul_bits (suc n) a b = bit_xor (b % 2 * a) (mul_bits n (xtime a) (b / 2))

unfoldable pub gmul : ℕ → ℕ → ℕ
gmul a b = mul_bits 8 a b

-- the product of a^2, a^4, .., a^(2^n)
unfoldable pub squares : ℕ → ℕ → ℕ
squares zero a = 1
squares (suc n) a = let s = gmul a a in gmul s (squares n s)

-- the inverse: a^254 (§4.4), which takes 0 to 0. That it is the inverse is the law `inverse_undoes` of proofs/Field.antt.
unfoldable pub inverse : ℕ → ℕ
inverse a = squares 7 a

-- ---- the S-box, §5.1.1

unfoldable pub bit : ℕ → ℕ → ℕ
bit x i = x / 2 ^ i % 2

-- "output bit i is the exclusive or of bits i, i+4, i+5, i+6, i+7 (indices modulo 8) and bit i of hex 63"
unfoldable pub affine_bit : ℕ → ℕ → ℕ
affine_bit x i = (bit x i + bit x ((i + 4) % 8) + bit x ((i + 5) % 8) + bit x ((i + 6) % 8) + bit x ((i + 7) % 8) + bit 0x63 i) % 2

-- the number whose bits from n - 1 down are those of the affine map
unfoldable pub affine_bits : ℕ → ℕ → ℕ
affine_bits zero x = 0
affine_bits (suc n) x = affine_bit x n * 2 ^ n + affine_bits n x

-- "the inverse in GF(2^8) modulo hex 11B (0 to 0), then" the affine map
unfoldable pub s_box : ℕ → ℕ
s_box b = affine_bits 8 (inverse b)

-- a table of the S-box
abbrev pub IsSBox : List ℕ → Type 0
IsSBox t = (b : ℕ) → b < 256 → get_or t b 0 ≡ s_box b

-- ---- the steps of a round, §5.1. Byte r + 4c of a block is row r, column c of the state; a word is a column, 4 bytes.

unfoldable pub sub_bytes : Block → Block
sub_bytes s = tabulate 16 (λ i. s_box (get_or s i 0))

unfoldable pub shift_rows : Block → Block
shift_rows s = tabulate 16 (λ i. get_or s (i % 4 + 4 * ((i / 4 + i % 4) % 4)) 0)

-- column c of the state
abbrev pub column : Block → ℕ → List ℕ
column s c = tabulate 4 (λ r. get_or s (r + 4 * c) 0)

-- {02}a ⊕ {03}b ⊕ c ⊕ d
unfoldable pub mix_byte : ℕ → ℕ → ℕ → ℕ → ℕ
mix_byte a b c d = bit_xor (bit_xor (bit_xor (gmul a 0x02) (gmul b 0x03)) c) d

unfoldable pub mix_word : List ℕ → List ℕ
mix_word w = tabulate 4 (λ r. mix_byte (get_or w r 0) (get_or w ((r + 1) % 4) 0) (get_or w ((r + 2) % 4) 0) (get_or w ((r + 3) % 4) 0))

unfoldable pub mix_columns : Block → Block
mix_columns s = tabulate 16 (λ i. get_or (mix_word (column s (i / 4))) (i % 4) 0)

-- the key of round r in a schedule: its words 4r to 4r + 3
unfoldable pub round_key : List ℕ → ℕ → Block
round_key w r = tabulate 16 (λ i. get_or w (16 * r + i) 0)

unfoldable pub add_round_key : List ℕ → ℕ → Block → Block
add_round_key w r s = s ⊕ round_key w r

-- ---- key expansion, §5.2, Algorithm 2 (Figure 11 in the edition of 2001), whose lines are quoted. AES-128 has a key of Nk = 4 words and
-- Nr = 10 rounds: its schedule is 4(Nr + 1) = 44 words, one after the other, word i at byte 4i.

abbrev pub word : List ℕ → ℕ → List ℕ
word w i = tabulate 4 (λ j. get_or w (4 * i + j) 0)

abbrev pub xor_word : List ℕ → List ℕ → List ℕ
xor_word a b = tabulate 4 (λ j. bit_xor (get_or a j 0) (get_or b j 0))

abbrev pub rot_word : List ℕ → List ℕ
rot_word a = tabulate 4 (λ j. get_or a ((j + 1) % 4) 0)

unfoldable pub sub_word : List ℕ → List ℕ
sub_word w = tabulate 4 (λ j. s_box (get_or w j 0))

-- {02}^k, which is x^k (§4.2)
unfoldable pub power_of_x : ℕ → ℕ
power_of_x zero = 1
power_of_x (suc k) = xtime (power_of_x k)

-- Rcon[j], j from 1: its first byte is {02}^(j - 1), the others are 0
abbrev pub rcon : ℕ → List ℕ
rcon j = power_of_x (j - 1) ∷ 0 ∷ 0 ∷ 0 ∷ []

-- "temp ← w[i-1]", here a; "if i mod Nk = 0 then temp ← SubWord(RotWord(temp)) ⊕ Rcon[i/Nk]". What else is done for Nk > 6 does not arise.
unfoldable pub temp : ℕ → List ℕ → List ℕ
temp i a = cond (eqb (i % 4) 0) (xor_word (sub_word (rot_word a)) (rcon (i / 4))) a

-- "w[i-Nk] ⊕ temp"
unfoldable pub next_word : List ℕ → ℕ → List ℕ
next_word w i = xor_word (word w (i - 4)) (temp i (word w (i - 1)))

-- w is the schedule of a key: what the algorithm says of each of its words
pub record IsExpansion (key : Block) (w : List ℕ) : Type 0 where
  pub words : length w ≡ 4 * 44
  -- "w[i] ← key[4*i..4*i+3]", for i up to Nk - 1
  pub from_key : (i : ℕ) → i < 4 → word w i ≡ word key i
  -- "w[i] ← w[i-Nk] ⊕ temp", for i from Nk up to 4 * Nr + 3
  pub from_words : (i : ℕ) → 4 ≤ i → i < 44 → word w i ≡ next_word w i

-- the key, and the k words after it
unfoldable pub expand_by : ℕ → Block → List ℕ
expand_by zero key = key
expand_by (suc k) key = let w = expand_by k key in w ++ next_word w (4 + k)

-- the schedule of a key, computed. Of a key of 16 bytes IsExpansion holds for this list and for no other: the law `expansion_exactly` of
-- proofs/Expansion.antt.
unfoldable pub key_expansion : Block → List ℕ
key_expansion key = expand_by 40 key

-- ---- the cipher, §5.1: "ten rounds, with one AddRoundKey before the first and no MixColumns in the last"

unfoldable pub aes_round : List ℕ → ℕ → Block → Block
aes_round w r s = add_round_key w r (mix_columns (shift_rows (sub_bytes s)))

-- the first AddRoundKey and the r rounds after it
unfoldable pub rounds : List ℕ → ℕ → Block → Block
rounds w zero s = add_round_key w 0 s
rounds w (suc r) s = aes_round w (suc r) (rounds w r s)

-- encryption under a schedule
unfoldable pub cipher : List ℕ → Block → Block
cipher w s = add_round_key w 10 (shift_rows (sub_bytes (rounds w 9 s)))

-- AES-128 under a key
unfoldable pub aes : Block → Block → Block
aes key s = cipher (key_expansion key) s

-- "the fixed key 00 01 02 .. 0F"
unfoldable pub fixed_key : Block
fixed_key = tabulate 16 (λ i. i)

-- "π is AES-128 under the fixed key"
unfoldable pub π : Block → Block
π s = aes fixed_key s

-- ---- doubling

-- 2A: "shifted left by one bit as one 128-bit number, with hex 87 exclusive-ored into the last byte exactly if the bit shifted out was 1"
-- (source 000, Fig. 6, D1)
unfoldable pub double : Block → Block
double a = block (number a * 2) ⊕ times (number a / 2 ^ 127) (block 0x87)

-- "4A is twice doubled"
unfoldable pub quadruple : Block → Block
quadruple a = double (double a)
