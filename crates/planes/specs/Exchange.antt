-- Eight words to planes and back, by exchanges of bits: of the numbers of a word and of a bit in it, two digits change places.
use Rattle.std.specs.Prelude.{ℕ, ◌+◌, ◌*◌, ◌-◌, ◌/◌, ◌%◌, ◌<◌, ◌≡◌, cond, [], ◌∷◌, eqb, get_or}
use Rattle.model.specs.Aes.{bit}
use Rattle.planes.specs.declared.planes.Planes.{Planes}
use Rattle.planes.specs.declared.exchange.Two.{Two}
use Rattle.planes.specs.declared.exchange.Pairs.{Pairs}
use Rattle.planes.specs.Lanes.{planes_of}
use Rattle.planes.specs.Alternation.{digit}

-- two words, of which bit l of the one has changed places with bit l - s of the other, where l has the digit s
pub record Swapped (s a b : ℕ) (r : Two) : Type 0 where
  pub low : (l : ℕ) → l < 64 → bit r.u l ≡ bit (get_or (a ∷ b ∷ []) (digit s l) 0) (l - digit s l * s)
  pub high : (l : ℕ) → l < 64 → bit r.v l ≡ bit (get_or (a ∷ b ∷ []) (digit s l) 0) (l - digit s l * s + s)

-- the same of two pairs of words
pub record SwappedPairs (s : ℕ) (x r : Pairs) : Type 0 where
  pub first : Swapped s x.a x.b (record { u = r.a; v = r.b })
  pub second : Swapped s x.c x.d (record { u = r.c; v = r.d })

-- s is 8, and then the odd bytes of both words have changed places
pub record SwappedTurned (a b : ℕ) (r : Two) : Type 0 where
  pub low : (l : ℕ) → l < 64 → bit r.u l ≡ bit (get_or (a ∷ b ∷ []) (digit 8 l) 0) l
  pub high : (l : ℕ) → l < 64 → bit r.v l ≡ bit (get_or (a ∷ b ∷ []) (digit 8 l) 0) (l + 8 - digit 8 l * 16)

-- each word of q with an even number and the next have become those of r, as P says
pub record ByPairs (P : ℕ → ℕ → Two → Type 0) (q r : Planes) : Type 0 where
  pub first : P q.p0 q.p1 (record { u = r.p0; v = r.p1 })
  pub second : P q.p2 q.p3 (record { u = r.p2; v = r.p3 })
  pub third : P q.p4 q.p5 (record { u = r.p4; v = r.p5 })
  pub fourth : P q.p6 q.p7 (record { u = r.p6; v = r.p7 })

-- bit l of word w of r is bit g w l of word f w l of q
unfoldable pub From : (ℕ → ℕ → ℕ) → (ℕ → ℕ → ℕ) → Planes → Planes → Type 0
From f g q r = (w l : ℕ) → w < 8 → l < 64 → bit (get_or (planes_of r) w 0) l ≡ bit (get_or (planes_of q) (f w l) 0) (g w l)

-- the word's lowest digit and the bit's digit s have changed places
abbrev pub from_word : ℕ → ℕ → ℕ → ℕ
from_word s w l = w - w % 2 + digit s l

abbrev pub from_bit : ℕ → ℕ → ℕ → ℕ
from_bit s w l = l - digit s l * s + w % 2 * s

abbrev pub Exchanged : ℕ → Planes → Planes → Type 0
Exchanged s = From (from_word s) (from_bit s)

abbrev pub ExchangedTurned : Planes → Planes → Type 0
ExchangedTurned = From (from_word 8) (λ w l. cond (eqb (w % 2) 0) l (l + 8 - digit 8 l * 16))

-- the words 0, 4, 1, 5, 2, 6, 3, 7, and the words 0, 2, 4, 6, 1, 3, 5, 7
abbrev pub Interleaved : Planes → Planes → Type 0
Interleaved = From (λ w l. w % 2 * 4 + w / 2) (λ w l. l)

abbrev pub Parted : Planes → Planes → Type 0
Parted = From (λ w l. w % 4 * 2 + w / 4) (λ w l. l)

-- where lane l, row l / 16 of column l / 4 % 4 of block l % 4, stands in eight words: each has two columns of a block, byte after byte
abbrev pub in_word : ℕ → ℕ
in_word l = l % 4 * 2 + l / 8 % 2

abbrev pub in_byte : ℕ → ℕ
in_byte l = l / 4 % 2 * 4 + l / 16

-- where byte j of word w stands in the planes after the last round: in an odd row, two columns on
abbrev pub out_lane : ℕ → ℕ → ℕ
out_lane w j = j % 4 * 16 + (w + j) % 2 * 8 + j / 4 * 4 + w / 2

-- words to planes, and planes after the last round to words
abbrev pub Spread : Planes → Planes → Type 0
Spread = From (λ w l. in_word l) (λ w l. 8 * in_byte l + w)

abbrev pub Gathered : Planes → Planes → Type 0
Gathered = From (λ w l. l % 8) (λ w l. out_lane w (l / 8))

-- the words of four blocks, of which block 1 is block 0 again, and block 3 block 2
unfoldable pub twice : Pairs → Planes
twice x = record { p0 = x.a; p1 = x.b; p2 = x.a; p3 = x.b; p4 = x.c; p5 = x.d; p6 = x.c; p7 = x.d }
