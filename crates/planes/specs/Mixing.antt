-- MixColumns on planes, §5.1.3, where ShiftRows is left out.
use Rattle.std.specs.Prelude.{ℕ, ◌+◌, ◌*◌, ◌/◌, ◌%◌, ◌<◌, ◌≡◌}
use Rattle.std.specs.Int.Bits.{bit_xor}
use Rattle.model.specs.Aes.{xtime, mix_byte}
use Rattle.planes.specs.declared.planes.Planes.{Planes}
use Rattle.planes.specs.Lanes.{byte_at}

-- the lane of the next row, k columns on
unfoldable pub below : ℕ → ℕ → ℕ
below k l = (l / 16 + 1) % 4 * 16 + (l / 4 % 4 + k) % 4 * 4 + l % 4

-- MixColumns, where the next row is k columns on
unfoldable pub MixedBy : ℕ → Planes → Planes → Type 0
MixedBy k q r =
    (l : ℕ) → l < 64 → byte_at r l ≡ mix_byte (byte_at q l) (byte_at q (below k l)) (byte_at q (below k (below k l))) (byte_at q (below k (below k (below k l))))

-- MixColumns of round r, which the last has not
pub record MixedAt (r : ℕ) (q x : Planes) : Type 0 where
  pub last : r ≡ 10 → x ≡ q
  pub other : (r ≡ 10 → ⊥) → MixedBy (r % 4) q x

-- b ⊕ (c ⊕ d) ⊕ {02}(a ⊕ b), from b, c ⊕ d and a ⊕ b
unfoldable pub Mixed : Planes → Planes → Planes → Planes → Type 0
Mixed b cd ab r = (l : ℕ) → l < 64 → byte_at r l ≡ bit_xor (bit_xor (byte_at b l) (byte_at cd l)) (xtime (byte_at ab l))

-- the same from a and b, where c stands in lane g l for a in lane l, and d there for b
unfoldable pub MixedFrom : (ℕ → ℕ) → Planes → Planes → Planes → Type 0
MixedFrom g a b r =
    (l : ℕ) → l < 64 → byte_at r l ≡ bit_xor (bit_xor (byte_at b l) (bit_xor (byte_at a (g l)) (byte_at b (g l)))) (xtime (bit_xor (byte_at a l) (byte_at b l)))
