-- A number as text, in decimal: ASCII digits, the highest first, without leading zeros.
use Rattle.std.specs.Prelude.{ℕ, zero, suc, ◌+◌, ◌/◌, ◌%◌, cond, List, [], ◌∷◌, ◌++◌, ltb}

-- a digit's byte: `0` is hex 30
unfoldable pub digit : ℕ → ℕ
digit d = 0x30 + d

-- A number below 10 is its digit. Any other is what it has of tens, x / 10, and its last digit after it. k bounds how often that is asked.
unfoldable pub digits : ℕ → ℕ → List ℕ
digits zero x = []
digits (suc k) x = cond (ltb x 10) (digit x ∷ []) (digits k (x / 10) ++ (digit (x % 10) ∷ []))

-- The tens of a number from 10 on are fewer than it is, so x + 1 times are enough: `decimal_low` and `decimal_high` of proofs/Decimal.antt
-- have the two sentences above of every x and no bound, and `decimal_is` there that it reads back as x.
unfoldable pub decimal : ℕ → List ℕ
decimal x = digits (suc x) x
