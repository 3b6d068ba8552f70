-- Document 01, "Table of examples": what the program prints of the bytes that it reads.
use Rattle.std.specs.Prelude.{ℕ, cond, List, [], ◌∷◌, ◌++◌, length, ltb}
use Rattle.model.specs.declared.Sizes.{Sizes}
use Rattle.model.specs.Decimal.{decimal}
use Rattle.model.specs.Material.{material_length}
use Rattle.model.specs.Refusals.{Verdict, fine, refused, circuit_verdict}
use Rattle.model.specs.Operations.{sizes_of}

-- in ASCII
abbrev pub blank : ℕ
blank = 0x20

abbrev pub line_feed : ℕ
line_feed = 0x0A

-- "one line each": numbers, a blank between two, and a line feed after the last
unfoldable pub line : List ℕ → List ℕ
line [] = line_feed ∷ []
line (x ∷ []) = decimal x ++ (line_feed ∷ [])
line (x ∷ y ∷ ys) = decimal x ++ (blank ∷ line (y ∷ ys))

-- "n m q p"
unfoldable pub sizes_line : Sizes → List ℕ
sizes_line z = line (z.n ∷ z.m ∷ z.q ∷ z.p ∷ [])

-- "the material lengths of schemes 1 to 3"
unfoldable pub lengths_line : ℕ → ℕ → List ℕ
lengths_line m p = line (material_length 1 m p ∷ material_length 2 m p ∷ material_length 3 m p ∷ [])

-- `refused` and a blank
unfoldable pub refused_word : List ℕ
refused_word = 0x72 ∷ 0x65 ∷ 0x66 ∷ 0x75 ∷ 0x73 ∷ 0x65 ∷ 0x64 ∷ blank ∷ []

-- `refused 7 3`: "A refusal is its number and a place"
unfoldable pub refused_line : ℕ → ℕ → List ℕ
refused_line number place = refused_word ++ line (number ∷ place ∷ [])

-- `too long`
unfoldable pub too_long_line : List ℕ
too_long_line = 0x74 ∷ 0x6F ∷ 0x6F ∷ blank ∷ 0x6C ∷ 0x6F ∷ 0x6E ∷ 0x67 ∷ line_feed ∷ []

-- "prints n m q p, then the material lengths of schemes 1 to 3"; of a circuit that check refuses, the refusal
abbrev pub check_text : Verdict → Sizes → List ℕ
check_text fine z = sizes_line z ++ lengths_line z.m z.p
check_text (refused number place) z = refused_line number place

-- "The program reads a circuit from standard input"; "Over 65,536 bytes it prints `too long`."
unfoldable pub program_text : List ℕ → List ℕ
program_text input = cond (ltb 65536 (length input)) too_long_line (check_text (circuit_verdict input) (sizes_of input))
