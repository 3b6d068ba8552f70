-- A state's four packed columns with the last two in one word of 64 bits.
use Rattle.std.specs.Prelude.{ℕ, ◌/◌, ◌%◌, ◌^◌, ◌≡◌}
use Rattle.aes.specs.declared.packed.Words.{Words}
use Rattle.aes.specs.declared.folded.Folded.{Folded}

-- x has these two words, the first in its lower half
pub record Joined (x low high : ℕ) : Type 0 where
  pub is_low : x % 2 ^ 32 ≡ low
  pub is_high : x / 2 ^ 32 ≡ high

-- the four columns
abbrev pub columns : Folded → Words
columns f = record { a = f.a; b = f.b; c = f.cd % 2 ^ 32; d = f.cd / 2 ^ 32 }
