-- A word read from a key or a schedule, a word written to one, and the two loops of the key expansion, which write one a turn. Assumes nothing.
use mathlib.Core.Path.{◌≡◌, refl, sym, ap, ◌∙◌}
use mathlib.Core.List.{List, [], ◌∷◌, ◌++◌, append_assoc}
use Prim.Native.Nat.{ℕ, ◌+◌, ◌-◌, ◌*◌, ◌/◌, ◌%◌, ◌<◌, ◌≤◌}
use native.Mathlib.Nat.{add-zero}
use native.Mathlib.Omega.{arith}
use lib.ListN.{length, get_or, take, length-append}
use lib.Seq.{take_at, take_all, take-take, length-take-le}
use Rattle.model.specs.Bytes.{over, put}
use Rattle.model.specs.Aes.{Block, word, xor_word, rot_word, sub_word, rcon, temp, next_word, IsExpansion}
use Rattle.model.proofs.Expansion.{take_word, next_length, temp_first, temp_other, Expanded, expanded_key, expanded_more, expanded_all}

-- ---- a word read, and a word written

pub word_read : (w : List ℕ) (i : ℕ) → get_or w (4 * i) 0 ∷ get_or w (4 * i + 1) 0 ∷ get_or w (4 * i + 2) 0 ∷ get_or w (4 * i + 3) 0 ∷ [] ≡ word w i
word_read w i = rw add-zero

put_take : (w x : List ℕ) (i : ℕ) → length x ≡ 4 → 4 * i + 4 ≤ length w → take (4 * (i + 1)) (put w (4 * i) x) ≡ take (4 * i) w ++ x
unfolding put over
put_take w x i l h =
    rw (← append_assoc)
    (take_at (take (4 * i) w ++ x) _ (4 * (i + 1)) (omega (arith, l, length-append (take (4 * i) w) x, length-take-le (4 * i) w (omega arith))))

-- ---- the first loop: before word i is written, w has the key's words up to it

pub record KeyCopied (key : Block) (i : ℕ) (w : List ℕ) : Type 0 where
  pub within : i ≤ 4
  pub size : length w ≡ 176
  pub so_far : take (4 * i) w ≡ take (4 * i) key

pub key_start : {key : Block} {w : List ℕ} → length w ≡ 176 → KeyCopied key 0 w
key_start l = record { within = omega arith; size = l; so_far = refl }

-- word i is x, and w' the schedule with it written
pub key_turn : {key : Block} {i : ℕ} {w x w' : List ℕ} → length key ≡ 16 → KeyCopied key i w → w' ≡ put w (4 * i) x → x ≡ word key i → length w' ≡ 176 → i < 4 →
    KeyCopied key (i + 1) w'
key_turn {key} {i} {w} {x} k inv f e l h =
    let y : List ℕ = word key i in
    record {
      within = omega arith;
      size = l;
      so_far =
          rw (f, e)
          (put_take w y i refl (omega (arith, inv.size)) ∙ ap (λ (v : List ℕ). v ++ y) inv.so_far ∙ sym (take_word i key (omega arith)));
    }

-- ---- the second loop: before word i is written, w has the schedule's words up to it

pub record Expanding (key : Block) (i : ℕ) (w : List ℕ) : Type 0 where
  pub past : 4 ≤ i
  pub within : i ≤ 44
  pub size : length w ≡ 176
  pub so_far : Expanded key i w

-- word i is made of temp and of word i - 4
module _ (w : List ℕ) (i : ℕ) where
  -- word i - 1, l, is rotated, which gives k, and substituted, s, and the round constant r is added
  pub temp_made : {l k s r x : List ℕ} → l ≡ word w (i - 1) → i % 4 ≡ 0 → k ≡ rot_word l → s ≡ sub_word k → r ≡ rcon (i / 4) → x ≡ xor_word s r →
      x ≡ temp i (word w (i - 1))
  temp_made d h e f g p = cc (temp_first i (word w (i - 1)) h)

  -- or kept
  pub temp_kept : {x : List ℕ} → x ≡ word w (i - 1) → (i % 4 ≡ 0 → ⊥) → x ≡ temp i (word w (i - 1))
  temp_kept e h = e ∙ sym (temp_other i (word w (i - 1)) h)

  pub made : {t o x : List ℕ} → t ≡ temp i (word w (i - 1)) → o ≡ word w (i - 4) → x ≡ xor_word o t → x ≡ next_word w i
  unfolding next_word
  made e f g = cc

-- the first loop left the key in the first 16 bytes
pub expand_start : {key : Block} {i : ℕ} {w : List ℕ} → KeyCopied key i w → Expanding (take 16 w) 4 w
expand_start {w = w} inv =
    record { past = omega arith; within = omega arith; size = inv.size; so_far = expanded_key (sym (take-take 16 16 w (omega arith))) }

pub expand_turn : {key : Block} {i : ℕ} {w x w' : List ℕ} → Expanding key i w → w' ≡ put w (4 * i) x → x ≡ next_word w i → length w' ≡ 176 → i < 44 →
    Expanding key (i + 1) w'
expand_turn {i = i} {w} {x} inv f e l h =
    let m : length x ≡ 4 = ap length e ∙ next_length w i in
    record {
      past = omega (arith, inv.past);
      within = omega arith;
      size = l;
      so_far =
          expanded_more inv.past (omega (arith, inv.size)) inv.so_far
          (rw f (put_take w x i m (omega (arith, inv.size)) ∙ ap (λ (y : List ℕ). take (4 * i) w ++ y) e));
    }

pub expand_end : {key : Block} {j i : ℕ} {w₀ w : List ℕ} → length key ≡ 16 → KeyCopied key j w₀ → 3 < j → Expanding (take 16 w₀) i w → 43 < i → IsExpansion key w
expand_end {key} {j} {i} {w₀} {w} l first g inv h =
    let p : 4 * j ≡ 16 = omega (arith, first.within) in
    let k : take 16 w₀ ≡ key = (rw p at first.so_far) ∙ take_all 16 key (omega arith) in
    let e : i ≡ 44 = omega (arith, inv.within) in
    expanded_all inv.size (rw (e, k) at inv.so_far)
