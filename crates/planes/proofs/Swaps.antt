-- The exchange of bits between words. Assumes nothing.
use mathlib.Core.Path.{◌≡◌, refl, sym, ap, ap₂, ◌∙◌}
use mathlib.Core.Bool.{cond}
use mathlib.Core.List.{List, [], ◌∷◌}
use Prim.Native.Nat.{ℕ, zero, suc, ◌+◌, ◌*◌, ◌-◌, ◌/◌, ◌%◌, ◌^◌, ◌<◌}
use native.Mathlib.Omega.{arith}
use native.Mathlib.Nat.{mod-lt, zero-lt-suc, add-div_left, div-eq_of_lt}
use lib.Dec.{eqb}
use lib.Bits.{bit_xor, bit_and, bit_or, xor_comm, xor_zero_r, xor_lt, and_zero_r, or_zero_l, or_zero_r}
use lib.ListN.{get_or}
use Rattle.model.specs.Bytes.{tabulate}
use Rattle.model.specs.Aes.{bit}
use Rattle.model.proofs.Lists.{entry}
use Rattle.model.proofs.XorRules.{xor_self_left}
use Rattle.planes.specs.declared.planes.Planes.{Planes}
use Rattle.planes.specs.declared.exchange.Two.{Two}
use Rattle.planes.specs.declared.exchange.Pairs.{Pairs}
use Rattle.planes.specs.Lanes.{planes_of}
use Rattle.planes.specs.Alternation.{digit, Alternates}
use Rattle.planes.specs.Exchange.{Swapped, SwappedPairs, SwappedTurned, From, from_word, from_bit, Exchanged, ExchangedTurned, Interleaved, Parted, in_word, in_byte, out_lane, Spread, twice, Gathered}
use Rattle.planes.proofs.Lanes.{at_each, at_both, Agree, bit_xor_law, bit_and_law, bit_or_law, bit_lt, and_one}
use Rattle.planes.proofs.Shifts.{Cut, before, after, cut, bit_right, bit_left_after, bit_left_before, bit_within}

pub xor_twice : (a b : ℕ) → bit_xor b (bit_xor a b) ≡ a
xor_twice a b = ap (bit_xor b) (xor_comm a b) ∙ xor_self_left b a

digit_lt : (s l : ℕ) → digit s l < 2
digit_lt s l = mod-lt (l / s) (zero-lt-suc 1)

-- ---- two words

module _ {s mask : ℕ} (alt : Alternates s mask) where
  -- the digit s of numbers from 0 on: s times 0, s times 1, and so on
  digit_next : (k : ℕ) → digit s (s + k) ≡ 1 - digit s k
  digit_next k = ap (λ (n : ℕ). n % 2) (add-div_left k alt.some) ∙ omega arith

  digit_first : (l d : ℕ) → s ≡ l + suc d → digit s l ≡ 0
  digit_first l d e = ap (λ (n : ℕ). n % 2) (div-eq_of_lt (omega arith))

  -- the bits that change places, where b has them
  abbrev moving : ℕ → ℕ → ℕ
  moving a b = bit_and (bit_xor (a / 2 ^ s) b) mask

  moving_bit : (a b l : ℕ) → l < 64 → bit (moving a b) l ≡ bit_and (bit_xor (bit a (s + l)) (bit b l)) (1 - digit s l)
  moving_bit a b l h =
      bit_and_law (bit_xor (a / 2 ^ s) b) mask l
      ∙ ap₂ bit_and (bit_xor_law (a / 2 ^ s) b l ∙ ap (λ (x : ℕ). bit_xor x (bit b l)) (bit_right a s l)) (at_each 64 (bit mask) (λ l. 1 - digit s l) alt.is_mask l h)

  both_lt : (a b l m : ℕ) → bit_xor (bit a l) (bit b m) < 2
  both_lt a b l m = xor_lt 1 _ _ (bit_lt a l) (bit_lt b m)

  -- a bit of the second word, by the digit d of its number
  high_case : (a b l d : ℕ) → d < 2 → Cut s l → digit s l ≡ d → bit_xor (bit b l) (bit_and (bit_xor (bit a (s + l)) (bit b l)) (1 - d)) ≡ bit (get_or (a ∷ b ∷ []) d 0) (l - d * s + s)
  high_case a b l zero hd c hl =
      let e : s + l ≡ l - 0 * s + s = omega arith in
      ap (bit_xor (bit b l)) (and_one _ (both_lt a b (s + l) l)) ∙ xor_twice (bit a (s + l)) (bit b l) ∙ ap (bit a) e
  high_case a b l (suc zero) hd (after k g) hl =
      let e : l ≡ l - 1 * s + s = omega arith in
      ap (bit_xor (bit b l)) (and_zero_r (bit_xor (bit a (s + l)) (bit b l))) ∙ xor_zero_r (bit b l) ∙ ap (bit b) e
  high_case a b l (suc zero) hd (before k g) hl = absurd (omega (arith, digit_first l k g))
  high_case a b l (suc (suc d)) hd c hl = absurd (omega arith)

  -- a bit of the first, past the first s
  low_case : (a b k l d : ℕ) → d < 2 → l ≡ s + k → bit_xor (bit a l) (bit_and (bit_xor (bit a (s + k)) (bit b k)) d) ≡ bit (get_or (a ∷ b ∷ []) d 0) (l - d * s)
  low_case a b k l zero hd e =
      let f : l ≡ l - 0 * s = omega arith in
      ap (bit_xor (bit a l)) (and_zero_r (bit_xor (bit a (s + k)) (bit b k))) ∙ xor_zero_r (bit a l) ∙ ap (bit a) f
  low_case a b k l (suc zero) hd e =
      let f : k ≡ l - 1 * s = omega arith in
      ap₂ bit_xor (ap (bit a) e) (and_one _ (both_lt a b (s + k) k)) ∙ xor_self_left (bit a (s + k)) (bit b k) ∙ ap (bit b) f
  low_case a b k l (suc (suc d)) hd e = absurd (omega arith)

  low_part : (a b l : ℕ) → l < 64 → Cut s l → bit (bit_xor a (moving a b * 2 ^ s % 2 ^ 64)) l ≡ bit (get_or (a ∷ b ∷ []) (digit s l) 0) (l - digit s l * s)
  low_part a b l h (before d e) =
      let g : l ≡ l - 0 * s = omega arith in
      bit_xor_law a (moving a b * 2 ^ s % 2 ^ 64) l
      ∙ ap (bit_xor (bit a l)) (bit_within (moving a b * 2 ^ s) l h ∙ ap (λ (n : ℕ). bit (moving a b * 2 ^ n) l) e ∙ bit_left_before (moving a b) l d)
      ∙ xor_zero_r (bit a l) ∙ ap (bit a) g ∙ sym (ap (λ (n : ℕ). bit (get_or (a ∷ b ∷ []) n 0) (l - n * s)) (digit_first l d e))
  low_part a b l h (after k e) =
      let f : digit s l ≡ 1 - digit s k = ap (digit s) e ∙ digit_next k in
      bit_xor_law a (moving a b * 2 ^ s % 2 ^ 64) l
      ∙ ap (bit_xor (bit a l)) (bit_within (moving a b * 2 ^ s) l h ∙ ap (bit (moving a b * 2 ^ s)) e ∙ bit_left_after (moving a b) s k ∙ moving_bit a b k (omega arith))
      ∙ ap (λ (n : ℕ). bit_xor (bit a l) (bit_and (bit_xor (bit a (s + k)) (bit b k)) n)) (sym f)
      ∙ low_case a b k l (digit s l) (digit_lt s l) e

  pub swaps : (a b : ℕ) (r : Two) → r.u ≡ bit_xor a (moving a b * 2 ^ s % 2 ^ 64) → r.v ≡ bit_xor b (moving a b) → Swapped s a b r
  swaps a b r eu ev =
      record {
        low = λ l h. ap (λ (x : ℕ). bit x l) eu ∙ low_part a b l h (cut s l);
        high =
            λ l h. ap (λ (x : ℕ). bit x l) ev ∙ bit_xor_law b (moving a b) l ∙ ap (bit_xor (bit b l)) (moving_bit a b l h)
            ∙ high_case a b l (digit s l) (digit_lt s l) (cut s l) refl;
      }

-- ---- eight words

pair : (v : List ℕ) (i d : ℕ) → d < 2 → get_or (get_or v i 0 ∷ get_or v (i + 1) 0 ∷ []) d 0 ≡ get_or v (i + d) 0
pair v i zero h =
    let e : i ≡ i + 0 = omega arith in
    ap (λ (n : ℕ). get_or v n 0) e
pair v i (suc zero) h = refl
pair v i (suc (suc d)) h = absurd (omega arith)

-- the words made from the words i and i + 1: d is 0 in the first, and 1 in the second
abbrev MadeOf : ℕ → Planes → ℕ → ℕ → ℕ → Type 0
MadeOf s q i d x = (l : ℕ) → l < 64 → bit x l ≡ bit (get_or (planes_of q) (i + digit s l) 0) (l - digit s l * s + d * s)

module _ (s : ℕ) (q : Planes) (i : ℕ) (p : Two) (is_p : Swapped s (get_or (planes_of q) i 0) (get_or (planes_of q) (i + 1) 0) p) where
  made_low : MadeOf s q i 0 p.u
  made_low l h =
      let n : ℕ = digit s l * s in
      let e : l - n ≡ l - n + 0 * s = omega arith in
      is_p.low l h ∙ ap₂ bit (pair (planes_of q) i (digit s l) (digit_lt s l)) e

  made_high : MadeOf s q i 1 p.v
  made_high l h =
      let n : ℕ = digit s l * s in
      let e : l - n + s ≡ l - n + 1 * s = omega arith in
      is_p.high l h ∙ ap₂ bit (pair (planes_of q) i (digit s l) (digit_lt s l)) e

cases8 : (P : ℕ → Type 0) → P 0 → P 1 → P 2 → P 3 → P 4 → P 5 → P 6 → P 7 → (w : ℕ) → w < 8 → P w
cases8 P a b c d e f g h zero l = a
cases8 P a b c d e f g h (suc zero) l = b
cases8 P a b c d e f g h (suc (suc zero)) l = c
cases8 P a b c d e f g h (suc (suc (suc zero))) l = d
cases8 P a b c d e f g h (suc (suc (suc (suc zero)))) l = e
cases8 P a b c d e f g h (suc (suc (suc (suc (suc zero))))) l = f
cases8 P a b c d e f g h (suc (suc (suc (suc (suc (suc zero)))))) l = g
cases8 P a b c d e f g h (suc (suc (suc (suc (suc (suc (suc zero))))))) l = h
cases8 P a b c d e f g h (suc (suc (suc (suc (suc (suc (suc (suc w)))))))) l = absurd (omega arith)

pub exchanges : (s : ℕ) (q r : Planes) (a b c d : Two) → Swapped s q.p0 q.p1 a → Swapped s q.p2 q.p3 b → Swapped s q.p4 q.p5 c → Swapped s q.p6 q.p7 d →
    planes_of r ≡ a.u ∷ a.v ∷ b.u ∷ b.v ∷ c.u ∷ c.v ∷ d.u ∷ d.v ∷ [] → Exchanged s q r
unfolding From planes_of
exchanges s q r a b c d ha hb hc hd e w l hw hl =
    ap (λ (v : List ℕ). bit (get_or v w 0) l) e
    ∙ cases8 (λ w. (l : ℕ) → l < 64 → bit (get_or (a.u ∷ a.v ∷ b.u ∷ b.v ∷ c.u ∷ c.v ∷ d.u ∷ d.v ∷ []) w 0) l ≡ bit (get_or (planes_of q) (from_word s w l) 0) (from_bit s w l))
    (made_low s q 0 a ha) (made_high s q 0 a ha) (made_low s q 2 b hb) (made_high s q 2 b hb) (made_low s q 4 c hc) (made_high s q 4 c hc) (made_low s q 6 d hd) (made_high s q 6 d hd) w hw l hl

-- the words in another order
pub reorders : (f : ℕ → ℕ) (q r : Planes) → planes_of r ≡ tabulate 8 (λ w. get_or (planes_of q) (f w) 0) → From (λ w l. f w) (λ w l. l) q r
unfolding From
reorders f q r e w l hw hl = ap (λ (v : List ℕ). bit (get_or v w 0) l) e ∙ ap (λ (x : ℕ). bit x l) (entry 0 8 (λ w. get_or (planes_of q) (f w) 0) w hw)

-- ---- one after the other: where all of them take bit l of word w from is compared at the 512 places

-- places stay places
abbrev Inside : (ℕ → ℕ → ℕ) → (ℕ → ℕ → ℕ) → Type 0
Inside f g = Agree 8 64 (λ w l. f w l / 8 + g w l / 64) (λ w l. 0)

then : (f' g' f g : ℕ → ℕ → ℕ) → Inside f g → (q a r : Planes) → From f' g' q a → From f g a r → From (λ w l. f' (f w l) (g w l)) (λ w l. g' (f w l) (g w l)) q r
unfolding From
then f' g' f g inside q a r fr st w l hw hl =
    let z : f w l / 8 + g w l / 64 ≡ 0 = at_both 8 64 (λ w l. f w l / 8 + g w l / 64) (λ w l. 0) inside w l hw hl in
    st w l hw hl ∙ fr (f w l) (g w l) (omega arith) (omega arith)

same_places : (f g f' g' : ℕ → ℕ → ℕ) → Agree 8 64 f f' → Agree 8 64 g g' → (q r : Planes) → From f g q r → From f' g' q r
unfolding From
same_places f g f' g' ef eg q r h w l hw hl =
    h w l hw hl ∙ ap₂ (λ (m n : ℕ). bit (get_or (planes_of q) m 0) n) (at_both 8 64 f f' ef w l hw hl) (at_both 8 64 g g' eg w l hw hl)

-- the six masks, and the exchanges with them

pub by_1 : Alternates 1 0x5555555555555555
unfolding bit
by_1 = record { some = omega arith; within = omega arith; is_mask = refl }

pub by_2 : Alternates 2 0x3333333333333333
unfolding bit
by_2 = record { some = omega arith; within = omega arith; is_mask = refl }

pub by_4 : Alternates 4 0x0F0F0F0F0F0F0F0F
unfolding bit
by_4 = record { some = omega arith; within = omega arith; is_mask = refl }

pub by_8 : Alternates 8 0x00FF00FF00FF00FF
unfolding bit
by_8 = record { some = omega arith; within = omega arith; is_mask = refl }

pub by_16 : Alternates 16 0x0000FFFF0000FFFF
unfolding bit
by_16 = record { some = omega arith; within = omega arith; is_mask = refl }

pub by_32 : Alternates 32 0x00000000FFFFFFFF
unfolding bit
by_32 = record { some = omega arith; within = omega arith; is_mask = refl }

pub ruleset masks = (by_1, by_2, by_4, by_8, by_16, by_32)

pub spreads : (q i a j b k c d e f r : Planes) → Interleaved q i → Exchanged 2 i a → Interleaved a j → Exchanged 1 j b → Interleaved b k → Exchanged 8 k c → Exchanged 16 c d →
    Exchanged 32 d e → Exchanged 4 e f → Parted f r → Spread q r
spreads q i a j b k c d e f r qi s2 aj s1 bk s8 s16 s32 s4 fr =
    same_places _ _ (λ w l. in_word l) (λ w l. 8 * in_byte l + w) refl refl q r
    (then _ _ _ _ refl q i r qi (then _ _ _ _ refl i a r s2 (then _ _ _ _ refl a j r aj (then _ _ _ _ refl j b r s1 (then _ _ _ _ refl b k r bk (then _ _ _ _ refl k c r s8
    (then _ _ _ _ refl c d r s16 (then _ _ _ _ refl d e r s32 (then _ _ _ _ refl e f r s4 fr)))))))))

-- the words a, b, c, d of two pairs, and the same again; the words a, a, b, b, c, c, d, d
again : Pairs → Planes
again x = record { p0 = x.a; p1 = x.b; p2 = x.c; p3 = x.d; p4 = x.a; p5 = x.b; p6 = x.c; p7 = x.d }

each : Pairs → Planes
each x = record { p0 = x.a; p1 = x.a; p2 = x.b; p3 = x.b; p4 = x.c; p5 = x.c; p6 = x.d; p7 = x.d }

-- the pairs (a, c) and (b, d)
abbrev crossed : Pairs → Pairs
crossed x = record { a = x.a; b = x.c; c = x.b; d = x.d }

-- both pairs exchanged, in either order of the words
module _ (s : ℕ) (x r : Pairs) (e : SwappedPairs s x r) where
  pairs_twice : Exchanged s (twice x) (twice r)
  unfolding twice planes_of
  pairs_twice = exchanges s (twice x) (twice r) _ _ _ _ e.first e.first e.second e.second refl

  pairs_again : Exchanged s (again x) (again r)
  unfolding again planes_of
  pairs_again = exchanges s (again x) (again r) _ _ _ _ e.first e.second e.first e.second refl

twice_again : (x : Pairs) → Interleaved (twice x) (again (crossed x))
unfolding twice again planes_of
twice_again x = reorders (λ w. w % 2 * 4 + w / 2) (twice x) (again (crossed x)) refl

again_each : (x : Pairs) → Interleaved (again x) (each x)
unfolding again each planes_of
again_each x = reorders (λ w. w % 2 * 4 + w / 2) (again x) (each x) refl

pub spreads_pairs : (x a b c d e : Pairs) (r : Planes) → SwappedPairs 8 x a → SwappedPairs 16 a b → SwappedPairs 32 b c → SwappedPairs 4 c d → SwappedPairs 2 (crossed d) e →
    Exchanged 1 (record { p0 = e.a; p1 = e.a; p2 = e.b; p3 = e.b; p4 = e.c; p5 = e.c; p6 = e.d; p7 = e.d }) r → Spread (twice x) r
unfolding each
spreads_pairs x a b c d e r s8 s16 s32 s4 s2 s1 =
    same_places _ _ (λ w l. in_word l) (λ w l. 8 * in_byte l + w) refl refl (twice x) r
    (then _ _ _ _ refl (twice x) (twice a) r (pairs_twice 8 x a s8) (then _ _ _ _ refl (twice a) (twice b) r (pairs_twice 16 a b s16)
    (then _ _ _ _ refl (twice b) (twice c) r (pairs_twice 32 b c s32) (then _ _ _ _ refl (twice c) (twice d) r (pairs_twice 4 c d s4)
    (then _ _ _ _ refl (twice d) (again (crossed d)) r (twice_again d) (then _ _ _ _ refl (again (crossed d)) (again e) r (pairs_again 2 (crossed d) e s2)
    (then _ _ _ _ refl (again e) (each e) r (again_each e) s1)))))))

-- ---- back, with the odd bytes turned

odd_bits : (l : ℕ) → l < 64 → bit 0xFF00FF00FF00FF00 l ≡ digit 8 l
unfolding bit
odd_bits = at_each 64 (bit 0xFF00FF00FF00FF00) (digit 8) refl

even_bits : (l : ℕ) → l < 64 → bit 0x00FF00FF00FF00FF l ≡ 1 - digit 8 l
even_bits = at_each 64 (bit 0x00FF00FF00FF00FF) (λ l. 1 - digit 8 l) by_8.is_mask

-- the even bytes of x and the odd bytes of y
bytes_of_both : (x y l : ℕ) → l < 64 →
    bit (bit_or (bit_and x 0x00FF00FF00FF00FF) (bit_and y 0xFF00FF00FF00FF00)) l ≡ bit_or (bit_and (bit x l) (1 - digit 8 l)) (bit_and (bit y l) (digit 8 l))
bytes_of_both x y l h =
    bit_or_law (bit_and x 0x00FF00FF00FF00FF) (bit_and y 0xFF00FF00FF00FF00) l
    ∙ ap₂ bit_or (bit_and_law x 0x00FF00FF00FF00FF l ∙ ap (bit_and (bit x l)) (even_bits l h)) (bit_and_law y 0xFF00FF00FF00FF00 l ∙ ap (bit_and (bit y l)) (odd_bits l h))

module _ (a b l : ℕ) (h : l < 64) where
  turned_low : (d : ℕ) → d < 2 → bit_or (bit_and (bit a l) (1 - d)) (bit_and (bit b l) d) ≡ bit (get_or (a ∷ b ∷ []) d 0) l
  turned_low zero hd = ap₂ bit_or (and_one (bit a l) (bit_lt a l)) (and_zero_r (bit b l)) ∙ or_zero_r (bit a l)
  turned_low (suc zero) hd = ap₂ bit_or (and_zero_r (bit a l)) (and_one (bit b l) (bit_lt b l)) ∙ or_zero_l (bit b l)
  turned_low (suc (suc d)) hd = absurd (omega arith)

  turned_high : (d : ℕ) → d < 2 → Cut 8 l → digit 8 l ≡ d →
      bit_or (bit_and (bit (a / 2 ^ 8) l) (1 - d)) (bit_and (bit (b * 2 ^ 8 % 2 ^ 64) l) d) ≡ bit (get_or (a ∷ b ∷ []) d 0) (l + 8 - d * 16)
  turned_high zero hd c e =
      let x : ℕ = a / 2 ^ 8 in
      let y : ℕ = b * 2 ^ 8 % 2 ^ 64 in
      let p : 8 + l ≡ l + 8 - 0 * 16 = omega arith in
      ap₂ bit_or (and_one (bit x l) (bit_lt x l)) (and_zero_r (bit y l)) ∙ or_zero_r (bit x l) ∙ bit_right a 8 l ∙ ap (bit a) p
  turned_high (suc zero) hd (after k f) e =
      let x : ℕ = a / 2 ^ 8 in
      let y : ℕ = b * 2 ^ 8 % 2 ^ 64 in
      let p : k ≡ l + 8 - 1 * 16 = omega arith in
      ap₂ bit_or (and_zero_r (bit x l)) (and_one (bit y l) (bit_lt y l)) ∙ or_zero_l (bit y l) ∙ bit_within (b * 2 ^ 8) l h ∙ ap (bit (b * 2 ^ 8)) f ∙ bit_left_after b 8 k ∙ ap (bit b) p
  turned_high (suc zero) hd (before k f) e = absurd (omega arith)
  turned_high (suc (suc d)) hd c e = absurd (omega arith)

pub swaps_turned : (a b : ℕ) (r : Two) → r.u ≡ bit_or (bit_and a 0x00FF00FF00FF00FF) (bit_and b 0xFF00FF00FF00FF00) →
    r.v ≡ bit_or (bit_and (a / 2 ^ 8) 0x00FF00FF00FF00FF) (bit_and (b * 2 ^ 8 % 2 ^ 64) 0xFF00FF00FF00FF00) → SwappedTurned a b r
swaps_turned a b r eu ev =
    record {
      low = λ l h. ap (λ (x : ℕ). bit x l) eu ∙ bytes_of_both a b l h ∙ turned_low a b l h (digit 8 l) (digit_lt 8 l);
      high = λ l h. ap (λ (x : ℕ). bit x l) ev ∙ bytes_of_both (a / 2 ^ 8) (b * 2 ^ 8 % 2 ^ 64) l h ∙ turned_high a b l h (digit 8 l) (digit_lt 8 l) (cut 8 l) refl;
    }

module _ (q : Planes) (i : ℕ) (p : Two) (is_p : SwappedTurned (get_or (planes_of q) i 0) (get_or (planes_of q) (i + 1) 0) p) where
  turned_first : (l : ℕ) → l < 64 → bit p.u l ≡ bit (get_or (planes_of q) (i + digit 8 l) 0) l
  turned_first l h = is_p.low l h ∙ ap (λ (x : ℕ). bit x l) (pair (planes_of q) i (digit 8 l) (digit_lt 8 l))

  turned_second : (l : ℕ) → l < 64 → bit p.v l ≡ bit (get_or (planes_of q) (i + digit 8 l) 0) (l + 8 - digit 8 l * 16)
  turned_second l h = is_p.high l h ∙ ap (λ (x : ℕ). bit x (l + 8 - digit 8 l * 16)) (pair (planes_of q) i (digit 8 l) (digit_lt 8 l))

pub exchanges_turned : (q r : Planes) (a b c d : Two) → SwappedTurned q.p0 q.p1 a → SwappedTurned q.p2 q.p3 b → SwappedTurned q.p4 q.p5 c →
    SwappedTurned q.p6 q.p7 d → planes_of r ≡ a.u ∷ a.v ∷ b.u ∷ b.v ∷ c.u ∷ c.v ∷ d.u ∷ d.v ∷ [] → ExchangedTurned q r
unfolding From planes_of
exchanges_turned q r a b c d ha hb hc hd e w l hw hl =
    ap (λ (v : List ℕ). bit (get_or v w 0) l) e
    ∙ cases8
    (λ w. (l : ℕ) → l < 64 → bit (get_or (a.u ∷ a.v ∷ b.u ∷ b.v ∷ c.u ∷ c.v ∷ d.u ∷ d.v ∷ []) w 0) l ≡ bit (get_or (planes_of q) (from_word 8 w l) 0) (cond (eqb (w % 2) 0) l (l + 8 - digit 8 l * 16)))
    (turned_first q 0 a ha) (turned_second q 0 a ha) (turned_first q 2 b hb) (turned_second q 2 b hb) (turned_first q 4 c hc) (turned_second q 4 c hc) (turned_first q 6 d hd) (turned_second q 6 d hd) w hw l hl

pub gathers : (q i a b c d j e k f r : Planes) → Interleaved q i → Exchanged 4 i a → Exchanged 32 a b → Exchanged 16 b c → ExchangedTurned c d → Parted d j → Exchanged 1 j e →
    Parted e k → Exchanged 2 k f → Parted f r → Gathered q r
gathers q i a b c d j e k f r qi s4 s32 s16 s8 dj s1 ek s2 fr =
    same_places _ _ (λ w l. l % 8) (λ w l. out_lane w (l / 8)) refl refl q r
    (then _ _ _ _ refl q i r qi (then _ _ _ _ refl i a r s4 (then _ _ _ _ refl a b r s32 (then _ _ _ _ refl b c r s16 (then _ _ _ _ refl c d r s8 (then _ _ _ _ refl d j r dj
    (then _ _ _ _ refl j e r s1 (then _ _ _ _ refl e k r ek (then _ _ _ _ refl k f r s2 fr)))))))))
