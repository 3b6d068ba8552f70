-- What one write after the other leaves. Assumes nothing.
use Prim.Native.Nat.{ℕ, ◌+◌, ◌/◌, ◌%◌, ◌^◌, ◌≤◌, ◌<◌}
use native.Mathlib.Nat.{mod-eq_of_lt}
use native.Mathlib.Numerals.{add-one}
use native.Mathlib.Omega.{arith}
use mathlib.Core.Path.{◌≡◌, refl, ap, ◌∙◌}
use mathlib.Core.List.{List, [], ◌∷◌, ◌++◌}
use lib.ListN.{length, set, length-append, length-set}
use lib.Seq.{set_split, drop-drop}
use Rattle.model.specs.Bytes.{over, put}
use Rattle.model.specs.Decimal.{digit, decimal}
use Rattle.model.proofs.Decimal.{decimal_low, decimal_high, decimal_few, decimal_some}
use Rattle.model.proofs.Buffers.{put_put, put_length}
use Rattle.text.specs.Written.{Wrote}

-- bytes of a known length, put at an index
pub wrote : (most : ℕ) (new o : List ℕ) (at end : ℕ) (left : List ℕ)
    → at + length new ≤ length o → length new ≤ most → left ≡ put o at new → end ≡ at + length new → Wrote most new o at end left
wrote most new o at end left h f e g = record { is_left = e; is_end = g; few = f; kept = ap length e ∙ put_length o at new h }

-- and more bytes right after them
pub wrote_then : (k l : ℕ) (a b o : List ℕ) (at e f : ℕ) (p q : List ℕ)
    → at + k + l ≤ length o → Wrote k a o at e p → Wrote l b p e f q → Wrote (k + l) (a ++ b) o at f q
wrote_then k l a b o at e f p q h w v = record {
  is_left = v.is_left ∙ rw w.is_left (put_put o at a b e w.is_end (omega (arith, w.few, v.few)));
  is_end = simp length-append (omega (arith, w.is_end, v.is_end));
  few = simp length-append (omega (arith, w.few, v.few));
  kept = v.kept ∙ w.kept;
}

-- bytes at the front of a buffer
pub wrote_front : (new o left : List ℕ) → length new ≤ length o → left ≡ over new o → Wrote (length new) new o 0 (length new) left
unfolding put
wrote_front new o left h e = wrote (length new) new o 0 (length new) left (omega arith) (omega arith) e (omega arith)

-- ---- a byte

set_put : (l : List ℕ) (i v : ℕ) → i < length l → set l i v ≡ put l i (v ∷ [])
unfolding put over
set_put l i v h = set_split l i v h ∙ rw (drop-drop, add-one)

pub byte_written : (byte : ℕ) (o : List ℕ) (at : ℕ) → at < length o → Wrote 1 (byte ∷ []) o at (at + 1) (set o at byte)
byte_written byte o at h = record { is_left = set_put o at byte h; is_end = refl; few = omega arith; kept = length-set o at byte }

-- ---- a number: its tens, where it has any, and its last digit

pub tens_less : (x t : ℕ) → 10 ≤ x → x ≡ t → x / 10 < t
tens_less x t h e = omega arith

module _ (x : ℕ) (o : List ℕ) (at : ℕ) (room : at + length (decimal x) ≤ length o) where
  long : 10 ≤ x → length (decimal x) ≡ length (decimal (x / 10)) + 1
  long h = rw (decimal_high x h) (simp length-append)

  pub tens_room : 10 ≤ x → at + length (decimal (x / 10)) ≤ length o
  tens_room h = omega (arith, room, long h)

  pub low_room : at < length o
  low_room = omega (arith, room, decimal_some x)

  pub low_written : (e : ℕ) (p : List ℕ) → x < 10 → Wrote 1 ((0x30 + x % 10) ∷ []) o at e p → Wrote 20 (decimal x) o at e p
  unfolding digit
  low_written e p h w = rw (decimal_low x h, ← mod-eq_of_lt h) (record { is_left = w.is_left; is_end = w.is_end; few = omega arith; kept = w.kept })

  module _ (fits : x < 2 ^ 64) (h : 10 ≤ x) (e : ℕ) (p : List ℕ) (tens : Wrote 20 (decimal (x / 10)) o at e p) where
    pub last_room : e < length p
    last_room = omega (arith, room, long h, tens.is_end, tens.kept)

    pub high_written : (f : ℕ) (q : List ℕ) → Wrote 1 ((0x30 + x % 10) ∷ []) p e f q → Wrote 20 (decimal x) o at f q
    unfolding digit
    high_written f q w = record {
      is_left =
          w.is_left ∙ rw (tens.is_left, decimal_high x h)
          (put_put o at (decimal (x / 10)) (digit (x % 10) ∷ []) e tens.is_end (omega (arith, room, long h)));
      is_end = omega (arith, w.is_end, tens.is_end, long h);
      few = decimal_few x fits;
      kept = w.kept ∙ tens.kept;
    }

pub ruleset decimal_cases = (tens_room, low_room, low_written, last_room, high_written)

-- there is room for a number where there is room for 20 digits and a byte
pub number_room : (x at : ℕ) (o : List ℕ) → x < 2 ^ 64 → at + 21 ≤ length o → at + length (decimal x) ≤ length o
number_room x at o h l = omega (arith, decimal_few x h)

pub end_room : (new o : List ℕ) (at past : ℕ) (left : List ℕ) → at + 21 ≤ length o → Wrote 20 new o at past left → past < length left
end_room new o at past left h w = omega (arith, w.is_end, w.few, w.kept)

-- a number, and the byte that ends it
pub number_ended : (new o : List ℕ) (at past end last : ℕ) (left gone : List ℕ)
    → at + 21 ≤ length o → Wrote 20 new o at past left → Wrote 1 (end ∷ []) left past last gone → Wrote 21 (new ++ (end ∷ [])) o at last gone
number_ended new o at past end last left gone h w v = wrote_then 20 1 new (end ∷ []) o at past last left gone (omega arith) w v
