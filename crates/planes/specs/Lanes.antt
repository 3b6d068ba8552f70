-- Four blocks in eight words, the planes: plane i has bit i of every byte. A lane is one bit of each plane, and so a byte.
use Rattle.std.specs.Prelude.{ℕ, ◌+◌, ◌*◌, ◌/◌, ◌%◌, ◌<◌, ◌≡◌, List, [], ◌∷◌, map}
use Rattle.std.specs.Int.Bits.{bit_xor}
use Rattle.model.specs.Bytes.{tabulate}
use Rattle.model.specs.Aes.{Block, bit}
use Rattle.planes.specs.declared.planes.Planes.{Planes}

-- the planes, the lowest bit's first
unfoldable pub planes_of : Planes → List ℕ
planes_of q = q.p0 ∷ q.p1 ∷ q.p2 ∷ q.p3 ∷ q.p4 ∷ q.p5 ∷ q.p6 ∷ q.p7 ∷ []

-- bit l of each word
unfoldable pub lane : ℕ → List ℕ → List ℕ
lane l v = map (λ x. bit x l) v

-- the number of given bits, the lowest first
unfoldable pub from_bits : List ℕ → ℕ
from_bits [] = 0
from_bits (b ∷ bs) = b + 2 * from_bits bs

-- the byte in lane l
unfoldable pub byte_at : Planes → ℕ → ℕ
byte_at q l = from_bits (lane l (planes_of q))

-- the lane of byte i of block b, which is row i % 4 of column i / 4, where ShiftRows was left out k times: row r is then turned by kr columns
abbrev pub lane_of : ℕ → ℕ → ℕ → ℕ
lane_of k b i = i % 4 * 16 + (i / 4 + k * (i % 4)) % 4 * 4 + b

-- block b, where ShiftRows was left out k times
unfoldable pub block_at : ℕ → ℕ → Planes → Block
block_at k b q = tabulate 16 (λ i. byte_at q (lane_of k b i))

-- r has in each lane the function's value of what q has there
unfoldable pub Lanewise : (ℕ → ℕ) → Planes → Planes → Type 0
Lanewise f q r = (l : ℕ) → l < 64 → byte_at r l ≡ f (byte_at q l)

-- and the exclusive or of what p and q have there
unfoldable pub Added : Planes → Planes → Planes → Type 0
Added p q r = (l : ℕ) → l < 64 → byte_at r l ≡ bit_xor (byte_at p l) (byte_at q l)
