-- Decoding by hashes: the search for a token that is not known, the bits, and both marks. Assumes nothing.
use Rattle.std.specs.Prelude.{Result, Ok, Err}
use Prim.Native.Nat.{ℕ, ◌+◌, ◌*◌, ◌-◌, ◌≤◌, ◌<◌}
use native.Mathlib.Omega.{arith}
use mathlib.Core.Path.{◌≡◌, refl, sym, ◌∙◌}
use mathlib.Core.Bool.{Bool, true, false, cond, ◌||◌, not}
use mathlib.Core.List.{List}
use lib.Bits.{bit_or, bit_and, and_le_l, and_le_r, and_self}
use lib.ListN.{length, take, drop, set}
use Rattle.model.specs.declared.Refusal.{Refusal}
use Rattle.model.specs.Bytes.{over, equal_bytes}
use Rattle.model.specs.Aes.{Block}
use Rattle.model.specs.Hashes.{hash}
use Rattle.model.specs.Ending.{output_tweak, agrees, colours, hashes, ending_of}
use Rattle.model.specs.Material.{hashed, last_bytes}
use Rattle.model.specs.Evaluation.{bytes_for}
use Rattle.model.specs.Refusals.{Verdict, fine, refused, refuse, first_of, verdict_of}
use Rattle.model.specs.Operations.{ran_of}
use Rattle.model.proofs.Verdicts.{first_all, Together, together_turn, ran_refused, ran_done}
use Rattle.model.proofs.OldEnding.{colours_bytes}
use Rattle.material.proofs.EndingLaws.{first_at, second_at}
use Rattle.evaluate.specs.declared.hashes.Differing.{Differing}
use Rattle.evaluate.specs.Last.{known_verdict, bits_of, LastStart, agreed, DifferingIs, HashedStart, BitsAre, BitsStart, stored_start, MarkedBits}
use Rattle.evaluate.proofs.LastLaws.{Telling, telling_start, telling_turn, telling_end}

-- ---- compare
pub compare_done : (ts s : List ℕ) (first i : ℕ) (x y u v : Block) → x ≡ take 16 (drop (16 * i) ts) → y ≡ hash x (output_tweak (i + 1)) → u ≡ take 16 (drop (first + 32 * i) s)
    → v ≡ take 16 (drop (first + 32 * i + 16) s) → (d : Differing) → d.zero ≡ cond (equal_bytes y u) 0 1 → d.one ≡ cond (equal_bytes y v) 0 1 → DifferingIs ts s first i d
unfolding agreed agrees
compare_done ts s first i x y u v is_x is_y is_u is_v d e f = record { is_zero = rw (← is_x, ← is_y, ← is_u) e; is_one = rw (← is_x, ← is_y, ← is_v) f }

-- ---- the search

one_agrees : (a b : Bool) → bit_and (cond a 0 1) (cond b 0 1) ≡ 0 → (a || b) ≡ true
one_agrees true b e = refl
one_agrees false true e = refl
one_agrees false false e = absurd (omega (arith, and_self 1, e))

none_agrees : (a b : Bool) → (bit_and (cond a 0 1) (cond b 0 1) ≡ 0 → ⊥) → (a || b) ≡ false
none_agrees true b n = absurd (n (omega (arith, and_le_l 0 (cond b 0 1))))
none_agrees false true n = absurd (n (omega (arith, and_le_r 1 0)))
none_agrees false false n = refl

-- what the two comparisons of output i tell
module _ (ts s : List ℕ) (first m i : ℕ) (stored : first + 32 * m ≤ length s) (h : i < m) where
  known_is : known_verdict hashes ts s first i ≡ refuse (not (agreed ts s i (first + 32 * i) || agreed ts s i (first + 32 * i + 16))) 29 (i + 1)
  unfolding known_verdict agreed
  known_is = unfold hashes in rw (first_at s first i, second_at s first i (omega arith))

  bit_is : hashes.bit (i + 1) (take 16 (drop (16 * i) ts)) (bytes_for hashes s first i) ≡ cond (agreed ts s i (first + 32 * i)) 0 1
  unfolding agreed
  bit_is = unfold hashes in rw (first_at s first i)

  module _ (d : Differing) (is_d : DifferingIs ts s first i d) where
    pub token_known : bit_and d.zero d.one ≡ 0 → known_verdict hashes ts s first i ≡ fine
    unfolding refuse
    token_known e = known_is ∙ rw (one_agrees (agreed ts s i (first + 32 * i)) (agreed ts s i (first + 32 * i + 16)) (rw (is_d.is_zero, is_d.is_one) at e))

    pub token_unknown : (bit_and d.zero d.one ≡ 0 → ⊥) → known_verdict hashes ts s first i ≡ refused 29 (i + 1)
    unfolding refuse
    token_unknown n =
        known_is ∙ rw (none_agrees (agreed ts s i (first + 32 * i)) (agreed ts s i (first + 32 * i + 16)) (λ e. n (rw (is_d.is_zero, is_d.is_one) e)))

    pub token_together : (all : ℕ) → Together (known_verdict hashes ts s first) m all i → Together (known_verdict hashes ts s first) m (bit_or all (bit_and d.zero d.one)) (i + 1)
    token_together all inv = together_turn (known_verdict hashes ts s first) m all i inv h (bit_and d.zero d.one) token_known

    -- the bit is the first of them
    pub zero_told : (o b : List ℕ) → m ≤ length o → Telling hashes ts s first m o i b → Telling hashes ts s first m o (i + 1) (set b i d.zero)
    zero_told o b room inv = telling_turn hashes ts s first m o i b inv room h d.zero (is_d.is_zero ∙ sym bit_is)

pub ruleset token_cases = (token_known, token_unknown)

-- ---- the bits
module _ (ts s : List ℕ) (first m : ℕ) (o : List ℕ) (room : m ≤ length o) where
  module _ (i : ℕ) (d : List ℕ) (inv : Telling hashes ts s first m o i d) where
    pub bits_write : i < m → i < length d
    bits_write h = omega (arith, inv.same_length)

    pub bits_turn : first + 32 * m ≤ length s → i < m → (x : Differing) → DifferingIs ts s first i x → Telling hashes ts s first m o (i + 1) (set d i x.zero)
    bits_turn stored h x is_x = zero_told ts s first m i stored h x is_x o d room inv

pub ruleset writing_cases = (telling_start, telling_end, bits_write, bits_turn)

-- ---- decode_hashes
module _ (m first : ℕ) (ts s o : List ℕ) (t : Result Unit Refusal) (is_t : ran_of t ≡ first_of (known_verdict hashes ts s first) m) where
  pub known_turned : (f : Refusal) → t ≡ Err f → BitsAre hashes first m ts s o (verdict_of f) o
  known_turned f e = let v = ran_refused t _ is_t f e in record { answered = v; left = refl }

  pub known_done : t ≡ Ok tt → (x : List ℕ) → x ≡ over (bits_of hashes ts s first m) o → BitsAre hashes first m ts s o fine x
  known_done e x is_x = record { answered = ran_done t _ is_t e; left = is_x }

-- ---- decode_bits

-- colours know every token
colours_know : (ts s : List ℕ) (first m : ℕ) → first_of (known_verdict colours ts s first) m ≡ fine
unfolding known_verdict colours refuse
colours_know ts s first m = first_all _ m (λ i h. refl)

module _ (m : ℕ) (ts s o : List ℕ) (start : BitsStart m ts s o) (t : Bool) (is_t : t ≡ hashed s) where
  pub marked_colours : t ≡ false → LastStart m ts s o
  marked_colours e = start.by_colours (sym is_t ∙ e)

  pub marked_coloured : t ≡ false → (x : List ℕ) → x ≡ over (bits_of colours ts s (length s - m) m) o → MarkedBits m ts s o fine x
  unfolding stored_start ending_of
  marked_coloured e x is_x =
      let b : hashed s ≡ false = sym is_t ∙ e in
      record {
        answered = rw (b, colours_bytes m) (sym (colours_know ts s (length s - m) m));
        left = rw (b, colours_bytes m) is_x;
      }

  module _ (e : t ≡ true) (l : ℕ) (is_l : (l ≡ last_bytes true m) × (l ≤ 2097120)) where
    by_hash : l ≡ 32 * m
    by_hash = is_l.0 ∙ (unfold last_bytes ending_of hashes in refl)

    pub marked_inside : l ≤ length s
    marked_inside = omega (arith, by_hash, start.by_hashes (sym is_t ∙ e))

    pub marked_hashes : HashedStart m (length s - l) ts s o
    marked_hashes = record {
      hashes = record { few = start.few; tokens = omega (arith, start.tokens); stored = omega (arith, by_hash, marked_inside) };
      room = start.room;
    }

    pub marked_hashed : (v : Verdict) (x : List ℕ) → BitsAre hashes (length s - l) m ts s o v x → MarkedBits m ts s o v x
    unfolding stored_start ending_of
    marked_hashed v x done =
        let b : hashed s ≡ true = sym is_t ∙ e in
        record { answered = rw (b, ← is_l.0) done.answered; left = rw (b, ← is_l.0) done.left }

pub ruleset marked_cases = (marked_colours, marked_coloured, marked_inside, marked_hashes, marked_hashed)
