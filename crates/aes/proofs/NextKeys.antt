-- Key expansion by packed words: the key of a round from that of the round before, and the loop that makes it beside the rounds. Assumes nothing.
use mathlib.Core.Path.{◌≡◌, refl, sym, ap, ap₂, ◌∙◌}
use mathlib.Core.List.{List}
use Prim.Native.Nat.{ℕ, zero, suc, ◌+◌, ◌-◌, ◌*◌, ◌/◌, ◌%◌, ◌^◌, ◌<◌, ◌≤◌}
use native.Mathlib.Omega.{arith}
use lib.Bits.{bit_or, bit_xor}
use Rattle.std.specs.Int.Bits.{or_shifted_r}
use lib.ListN.{length}
use Rattle.std.specs.Int.{w32, rotate_right}
use Rattle.model.specs.Aes.{Block, ◌⊕◌, sub_bytes, shift_rows, mix_columns, word, xor_word, rot_word, sub_word, rcon, xtime, power_of_x, next_word, IsExpansion, key_expansion, aes}
use Rattle.model.proofs.Mix.{xtime_byte}
use Rattle.model.proofs.Expansion.{temp_first, temp_other, expansion_is}
use Rattle.aes.specs.declared.packed.Words.{Words}
use Rattle.aes.specs.Tables.{word_of, state_of}
use Rattle.aes.specs.Round.{IsRoundKey, NextKey}
use Rattle.aes.proofs.Packing.{four, word_xor}
use Rattle.aes.proofs.Rounds.{Through, rounds_start, rounds_turn, rounds_end, by_key, added, round_keyed}

-- ---- RotWord and the round constants

pub rotates : (x : ℕ) → x < 2 ^ 32 → word_of (rotate_right w32 x 8) ≡ rot_word (word_of x)
unfolding word_of
rotates x h =
    let high : x * 2 ^ 24 % 2 ^ 32 ≡ x % 256 * 2 ^ 24 = omega arith in
    let whole : bit_or (x / 2 ^ 8) (x * 2 ^ 24 % 2 ^ 32) ≡ x % 256 * 2 ^ 24 + x / 2 ^ 8 =
    ap (bit_or (x / 2 ^ 8)) high ∙ or_shifted_r (x % 256) 24 (x / 2 ^ 8) (omega arith) in
    rw whole (four (omega arith) (omega arith) (omega arith) (omega arith))

pub doubles : (rc : ℕ) → rc < 256 → bit_xor (rc * 2 ^ 1 % 2 ^ 32) (rc / 2 ^ 7 * 0x11B) ≡ xtime rc
unfolding xtime
doubles rc h =
    let e : rc * 2 ^ 1 % 2 ^ 32 ≡ rc * 2 = omega arith in
    rw e

pub power_byte : (k : ℕ) → power_of_x k < 256
unfolding power_of_x
power_byte zero = omega arith
power_byte (suc k) = xtime_byte (power_of_x k) (power_byte k)

constant_word : (k : ℕ) → word_of (power_of_x k) ≡ rcon (k + 1)
unfolding word_of
constant_word k =
    let l : power_of_x k < 256 = power_byte k in
    let e : k + 1 - 1 ≡ k = omega arith in
    rw e (four (omega arith) (omega arith) (omega arith) (omega arith))

-- ---- the four words of the next key: x is the last word rotated, and s that substituted

pub next_made : (k : Words) (rc x s : ℕ) → word_of x ≡ rot_word (word_of k.d) → word_of s ≡ sub_word (word_of x) →
    let a = bit_xor k.a (bit_xor s rc) in
    let b = bit_xor k.b a in
    let c = bit_xor k.c b in
    NextKey k rc (record { a = a; b = b; c = c; d = bit_xor k.d c })
next_made k rc x s is_x is_s =
    record {
      is_a = word_xor _ _ ∙ ap (xor_word (word_of k.a)) (word_xor s rc ∙ ap (λ (y : List ℕ). xor_word y (word_of rc)) (is_s ∙ ap sub_word is_x));
      is_b = word_xor _ _;
      is_c = word_xor _ _;
      is_d = word_xor _ _;
    }

-- ---- in the schedule w of a key, it is the key of the next round

module _ {key : Block} {w : List ℕ} (is_w : IsExpansion key w) where
  -- a word that starts a round, and one that does not
  first_word : (s : ℕ) → s < 10 → word w (4 * (s + 1)) ≡ xor_word (word w (4 * s)) (xor_word (sub_word (rot_word (word w (4 * s + 3)))) (rcon (s + 1)))
  unfolding next_word
  first_word s h =
      let i : ℕ = 4 * (s + 1) in
      let back : i - 4 ≡ 4 * s = omega arith in
      let last : i - 1 ≡ 4 * s + 3 = omega arith in
      let turn : i / 4 ≡ s + 1 = omega arith in
      is_w.from_words i (omega arith) (omega arith)
      ∙ ap₂ (λ (x y : List ℕ). xor_word x y) (ap (word w) back)
      (temp_first i (word w (i - 1)) (omega arith) ∙ ap₂ (λ (n m : ℕ). xor_word (sub_word (rot_word (word w n))) (rcon m)) last turn)

  later_word : (i b l : ℕ) → i < 44 → (i % 4 ≡ 0 → ⊥) → b + 4 ≡ i → l + 1 ≡ i → word w i ≡ xor_word (word w b) (word w l)
  unfolding next_word
  later_word i b l h n back last =
      let p : i - 4 ≡ b = omega arith in
      let q : i - 1 ≡ l = omega arith in
      is_w.from_words i (omega arith) h
      ∙ ap₂ (λ (x y : List ℕ). xor_word x y) (ap (word w) p) (temp_other i (word w (i - 1)) n ∙ ap (word w) q)

  pub next_round_key : (s : ℕ) → s < 10 → (k q : Words) → IsRoundKey w s k → NextKey k (power_of_x s) q → IsRoundKey w (s + 1) q
  next_round_key s h k q now next = record { is_a = a; is_b = b; is_c = c; is_d = d }
    where
      each : {x y z w v : List ℕ} → x ≡ xor_word y z → y ≡ w → z ≡ v → x ≡ xor_word w v
      each e f g = e ∙ ap₂ (λ (y z : List ℕ). xor_word y z) f g

      a : word_of q.a ≡ word w (4 * (s + 1))
      a =
          each next.is_a now.is_a (ap₂ (λ (x y : List ℕ). xor_word (sub_word (rot_word x)) y) now.is_d (constant_word s))
          ∙ sym (first_word s h)

      b : word_of q.b ≡ word w (4 * (s + 1) + 1)
      b =
          each next.is_b now.is_b a
          ∙ sym (later_word (4 * (s + 1) + 1) (4 * s + 1) (4 * (s + 1)) (omega arith) (λ e. omega arith) (omega arith) (omega arith))

      c : word_of q.c ≡ word w (4 * (s + 1) + 2)
      c =
          each next.is_c now.is_c b
          ∙ sym (later_word (4 * (s + 1) + 2) (4 * s + 2) (4 * (s + 1) + 1) (omega arith) (λ e. omega arith) (omega arith) (omega arith))

      d : word_of q.d ≡ word w (4 * (s + 1) + 3)
      d =
          each next.is_d now.is_d c
          ∙ sym (later_word (4 * (s + 1) + 3) (4 * s + 3) (4 * (s + 1) + 2) (omega arith) (λ e. omega arith) (omega arith) (omega arith))

-- ---- the loop: before round r, k is the key of that round, s the state, and rc the round constant of the next. This is so in the schedule of any key
-- in which the words k₀ were the key of round 1, when s₀ was the state.

pub record Beside (k₀ : Words) (s₀ : Block) (r : ℕ) (k : Words) (rc : ℕ) (s : Block) : Type 0 where
  pub past : 0 < r
  pub within : r ≤ 10
  pub is_constant : rc ≡ power_of_x r
  pub under : {key : Block} {w : List ℕ} → IsExpansion key w → IsRoundKey w 1 k₀ → IsRoundKey w r k × Through w s₀ r s

pub beside_start : {k₀ : Words} {s₀ : Block} → Beside k₀ s₀ 1 k₀ 2 s₀
unfolding power_of_x xtime
beside_start = record { past = omega arith; within = omega arith; is_constant = refl; under = λ x k. (k, rounds_start) }

pub beside_turn : {k₀ k k' : Words} {s₀ s s' : Block} {r rc rc' : ℕ} → Beside k₀ s₀ r k rc s → r < 10 → s' ≡ mix_columns (shift_rows (sub_bytes s)) ⊕ state_of k →
    NextKey k rc k' → rc' ≡ xtime rc → Beside k₀ s₀ (r + 1) k' rc' s'
unfolding power_of_x
beside_turn {k = k} {k'} {s = s} {s'} {r} inv h is_s next is_rc =
    let e : r + 1 ≡ suc r = omega arith in
    record {
      past = omega arith;
      within = omega arith;
      is_constant = rw (e, ← inv.is_constant) is_rc;
      under = λ x k₁.
          let now = inv.under x k₁ in
          (next_round_key x r h k k' now.0 (rw inv.is_constant at next), rounds_turn now.1 (round_keyed _ r k now.0 s s' is_s) h);
    }

-- a round constant on its way is a byte
pub beside_byte : {k₀ k : Words} {s₀ s : Block} {r rc : ℕ} → Beside k₀ s₀ r k rc s → rc < 256
beside_byte {r = r} inv = rw inv.is_constant (power_byte r)

-- ---- and its end: f is the key, and x the block

state_length : (k : Words) → length (state_of k) ≡ 16
unfolding state_of word_of
state_length k = refl

-- the key is that of round 0
pub first_key : (key : Block) (w : List ℕ) → IsExpansion key w → (k : Words) → state_of k ≡ key → IsRoundKey w 0 k
unfolding state_of word_of
first_key key w is_w k e = record {
  is_a = ap (λ (x : List ℕ). word x 0) e ∙ sym (is_w.from_key 0 (omega arith));
  is_b = ap (λ (x : List ℕ). word x 1) e ∙ sym (is_w.from_key 1 (omega arith));
  is_c = ap (λ (x : List ℕ). word x 2) e ∙ sym (is_w.from_key 2 (omega arith));
  is_d = ap (λ (x : List ℕ). word x 3) e ∙ sym (is_w.from_key 3 (omega arith));
}

module _ {key b : Block} {f k₀ : Words} (is_f : state_of f ≡ key) (is_k : NextKey f 1 k₀) where
  pub beside_end : {k : Words} {s₀ s z x : Block} {r rc : ℕ} → Beside k₀ s₀ r k rc s → 10 ≤ r → z ≡ shift_rows (sub_bytes s) ⊕ state_of k → s₀ ≡ x ⊕ state_of f → x ≡ b →
      z ≡ aes key b
  unfolding power_of_x
  beside_end {k} {z = z} {x} {r} inv h is_z is_s is_x =
      let wide : length key ≡ 16 = ap length (sym is_f) ∙ state_length f in
      let w : List ℕ = key_expansion key in
      let is_w : IsExpansion key w = expansion_is key wide in
      let zeroth = first_key key w is_w f is_f in
      let now = inv.under is_w (next_round_key is_w 0 (omega arith) f k₀ zeroth is_k) in
      let ten : r ≡ 10 = omega (arith, inv.within) in
      let last : IsRoundKey w 10 k = rw ten at now.0 in
      by_key b (rounds_end now.1 h (added w 10 k last _ z is_z) b (added w 0 f zeroth b _ (rw is_x at is_s))) wide is_w
