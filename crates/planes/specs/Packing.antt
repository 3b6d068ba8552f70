-- Blocks packed into planes and back.
use Rattle.std.specs.Prelude.{ℕ, ◌*◌, ◌/◌, ◌%◌, ◌^◌, ◌≡◌, List, ◌++◌, cond, eqb, get_or}
use Rattle.model.specs.Bytes.{tabulate}
use Rattle.model.specs.Aes.{Block}
use Rattle.planes.specs.declared.planes.Planes.{Planes}
use Rattle.planes.specs.declared.packing.Four.{Four}
use Rattle.planes.specs.declared.packing.Halves.{Halves}
use Rattle.planes.specs.Lanes.{block_at}

-- byte i of a word, 0 the lowest
abbrev pub byte_of : ℕ → ℕ → ℕ
byte_of x i = x / 2 ^ (8 * i) % 256

unfoldable pub bytes_of8 : ℕ → List ℕ
bytes_of8 x = tabulate 8 (byte_of x)

-- the block of two halves
unfoldable pub of_halves : Halves → Block
of_halves h = bytes_of8 h.first ++ bytes_of8 h.second

-- each byte of the mask is 0 or 255
abbrev pub OfBytes : ℕ → Type 0
OfBytes mask = tabulate 8 (byte_of mask) ≡ tabulate 8 (λ j. cond (eqb (byte_of mask j) 0) 0 255)

-- the bytes of s where the mask has 0, and those of t where it has 255
unfoldable pub rows_from : ℕ → List ℕ → List ℕ → List ℕ
rows_from mask s t = tabulate 8 (λ j. get_or (cond (eqb (byte_of mask j) 0) s t) j 0)

-- q has these four blocks, before the first round
pub record Packed (x : Four) (q : Planes) : Type 0 where
  pub is_a : block_at 0 0 q ≡ x.a.bytes
  pub is_b : block_at 0 1 q ≡ x.b.bytes
  pub is_c : block_at 0 2 q ≡ x.c.bytes
  pub is_d : block_at 0 3 q ≡ x.d.bytes

-- x are the four blocks in q, after the last round: ShiftRows was left out ten times, and four times are none
pub record Unpacked (q : Planes) (x : Four) : Type 0 where
  pub is_a : x.a.bytes ≡ block_at 2 0 q
  pub is_b : x.b.bytes ≡ block_at 2 1 q
  pub is_c : x.c.bytes ≡ block_at 2 2 q
  pub is_d : x.d.bytes ≡ block_at 2 3 q
