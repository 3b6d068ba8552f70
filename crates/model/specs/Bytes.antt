-- Lists and numbers that every section uses. Document 01, "The product's edges": numbers in files are big-endian.
use Rattle.std.specs.Prelude.{ℕ, zero, suc, ◌+◌, ◌*◌, ◌/◌, ◌%◌, ◌^◌, List, [], ◌∷◌, ◌++◌, Bool, true, false, ◌&&◌, eqb, length, get_or, take, drop}

-- f i, f (i + 1), .., n of them
abbrev pub from : {A : Type 0} → ℕ → ℕ → (ℕ → A) → List A
from i zero f = []
from i (suc n) f = f i ∷ from (suc i) n f

-- f 0, f 1, .., f (n - 1)
abbrev pub tabulate : {A : Type 0} → ℕ → (ℕ → A) → List A
tabulate n f = from 0 n f

-- the number of the two bytes at an index of a file
unfoldable pub be16 : List ℕ → ℕ → ℕ
be16 s at = get_or s at 0 * 256 + get_or s (at + 1) 0

-- a number of 2 bytes, the higher first
abbrev pub two : ℕ → List ℕ
two k = k / 256 % 256 ∷ k % 256 ∷ []

-- the number that bytes are, the highest first
unfoldable pub number : List ℕ → ℕ
number [] = 0
number (x ∷ xs) = x * 256 ^ length xs + number xs

-- the n low bytes of a number, the highest first
unfoldable pub bytes_of : ℕ → ℕ → List ℕ
bytes_of zero x = []
bytes_of (suc n) x = x / 256 ^ n % 256 ∷ bytes_of n x

-- a buffer with new bytes at its front; "bytes of a buffer past those named are untouched" (01, Operations)
unfoldable pub over : List ℕ → List ℕ → List ℕ
over new old = new ++ drop (length new) old

-- a buffer with new bytes at an index, the others as they were
unfoldable pub put : List ℕ → ℕ → List ℕ → List ℕ
put old at new = take at old ++ over new (drop at old)

-- whether two lists are the same bytes
unfoldable pub equal_bytes : List ℕ → List ℕ → Bool
equal_bytes [] [] = true
equal_bytes [] (y ∷ ys) = false
equal_bytes (x ∷ xs) [] = false
equal_bytes (x ∷ xs) (y ∷ ys) = eqb x y && equal_bytes xs ys
