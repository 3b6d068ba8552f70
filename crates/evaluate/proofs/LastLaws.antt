-- The bits of the outputs, written one after the other, by whatever they are told; and by colours. Assumes nothing.
use Prim.Native.Nat.{ℕ, ◌+◌, ◌*◌, ◌-◌, ◌≤◌, ◌<◌}
use native.Mathlib.Numerals.{add-one}
use native.Mathlib.Omega.{arith}
use mathlib.Core.Path.{◌≡◌, refl, ◌∙◌}
use mathlib.Core.List.{List}
use lib.ListN.{length, get_or, take, drop, set, length-set}
use Rattle.model.specs.Bytes.{over}
use Rattle.model.specs.Aes.{Block}
use Rattle.model.specs.Tokens.{colour, decoded}
use Rattle.model.specs.Ending.{Ending, colours}
use Rattle.model.specs.Evaluation.{bytes_for}
use Rattle.model.proofs.Lists.{tabulate_snoc, tabulate_length}
use Rattle.model.proofs.Buffers.{over_none, over_set}
use Rattle.model.proofs.OldEnding.{byte_at}
use Rattle.evaluate.specs.Last.{bits_of, LastStart}

-- d is the buffer after i outputs of m, and o at the start
pub record Telling (E : Ending) (ts s : List ℕ) (first m : ℕ) (o : List ℕ) (i : ℕ) (d : List ℕ) : Type 0 where
  pub within : i ≤ m
  pub same_length : length d ≡ length o
  pub so_far : d ≡ over (bits_of E ts s first i) o

module _ (E : Ending) (ts s : List ℕ) (first m : ℕ) (o : List ℕ) where
  -- the bit of output i
  abbrev pub bit_at : ℕ → ℕ
  bit_at i = E.bit (i + 1) (take 16 (drop (16 * i) ts)) (bytes_for E s first i)

  pub telling_start : Telling E ts s first m o 0 o
  unfolding bits_of
  telling_start = record { within = omega arith; same_length = refl; so_far = over_none o }

  module _ (i : ℕ) (d : List ℕ) (inv : Telling E ts s first m o i d) where
    pub telling_turn : m ≤ length o → i < m → (v : ℕ) → v ≡ bit_at i → Telling E ts s first m o (i + 1) (set d i v)
    unfolding bits_of
    telling_turn room h v is_v = record {
      within = omega arith;
      same_length = simp length-set inv.same_length;
      so_far =
          rw (add-one, tabulate_snoc i bit_at, inv.so_far, is_v)
          (over_set (bits_of E ts s first i) o i _ (tabulate_length i bit_at) (omega (arith, room)));
    }

    pub telling_end : m ≤ i → d ≡ over (bits_of E ts s first m) o
    telling_end h = let w = inv.within in let e : i ≡ m = omega arith in rw e at inv.so_far

-- ---- colours
module _ (m : ℕ) (ts s o : List ℕ) where
  abbrev pub Decoding : ℕ → List ℕ → Type 0
  Decoding i d = Telling colours ts s (length s - m) m o i d

  pub decode_start : Decoding 0 o
  decode_start = telling_start colours ts s (length s - m) m o

  module _ (start : LastStart m ts s o) (i : ℕ) (d : List ℕ) (inv : Decoding i d) where
    pub decode_load : i < m → 16 * i + 16 ≤ length ts
    decode_load h = omega (arith, start.tokens)

    pub decode_byte : i < m → length s - m + i < length s
    decode_byte h = omega (arith, start.inside)

    pub decode_write : i < m → i < length d
    decode_write h = omega (arith, start.room, inv.same_length)

    pub decode_zero : i < m → get_or s (length s - m + i) 0 ≤ 1
    decode_zero h = start.bits i h

    pub decode_turn : i < m → (x : Block) (b v : ℕ) → x ≡ take 16 (drop (16 * i) ts) → b ≡ colour x → v ≡ decoded b (get_or s (length s - m + i) 0)
        → Decoding (i + 1) (set d i v)
    decode_turn h x b v is_x is_b is_v =
        telling_turn colours ts s (length s - m) m o i d inv start.room h v
        (is_v ∙ rw (is_b, is_x) (unfold colours in rw (byte_at s (length s - m) i)))

    pub decode_end : m ≤ i → d ≡ over (bits_of colours ts s (length s - m) m) o
    decode_end h = telling_end colours ts s (length s - m) m o i d inv h

pub ruleset decode_turns = (decode_start, decode_load, decode_byte, decode_write, decode_zero, decode_turn, decode_end)
