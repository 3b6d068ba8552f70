-- Key expansion, §5.2: what the standard says of each word of a schedule has one solution, which is key_expansion. Assumes nothing.
use mathlib.Core.Path.{◌≡◌, refl, sym, ap, ap₂, ◌∙◌}
use mathlib.Core.Logic.{◌↔◌, ◌⊎◌, inl, inr}
use mathlib.Core.List.{List, ◌++◌}
use Prim.Native.Nat.{ℕ, zero, suc, ◌+◌, ◌-◌, ◌*◌, ◌/◌, ◌%◌, ◌<◌, ◌≤◌}
use native.Mathlib.Nat.{eq-or-lt_of_le}
use native.Mathlib.Omega.{arith}
use borrow.Author.Tests.{eq-eqb, ne_eqb}
use lib.ListN.{length, take, length-append}
use lib.Seq.{get_or-take, length-take-le, take_all, take-add, take_at, take-take, drop_at}
use Rattle.model.specs.Aes.{Block, word, xor_word, rot_word, sub_word, rcon, temp, next_word, IsExpansion, expand_by, key_expansion}
use Rattle.model.proofs.Lists.{part}

-- ---- words of a schedule

-- the first n + 1 words
pub take_word : (n : ℕ) (w : List ℕ) → 4 * n + 4 ≤ length w → take (4 * (n + 1)) w ≡ take (4 * n) w ++ word w n
take_word n w h =
    let e : 4 * (n + 1) ≡ 4 * n + 4 = omega arith in
    rw e (take-add (4 * n) 4 w ∙ ap (λ (x : List ℕ). take (4 * n) w ++ x) (sym (part w (4 * n) 4 h)))

-- the last of n + 1 words
last_word : (n : ℕ) (p x : List ℕ) → length p ≡ 4 * n → length x ≡ 4 → word (p ++ x) n ≡ x
last_word n p x l m =
    part (p ++ x) (4 * n) 4 (omega (arith, length-append p x)) ∙ ap (take 4) (drop_at p x (4 * n) l) ∙ take_all 4 x (omega arith)

pub next_length : (w : List ℕ) (i : ℕ) → length (next_word w i) ≡ 4
unfolding next_word
next_length w i = refl

-- temp in its two cases: for the first word of a round, and for the others
module _ (i : ℕ) (a : List ℕ) where
  pub temp_first : i % 4 ≡ 0 → temp i a ≡ xor_word (sub_word (rot_word a)) (rcon (i / 4))
  unfolding temp
  temp_first h = rw (eq-eqb (i % 4) 0 h)

  pub temp_other : (i % 4 ≡ 0 → ⊥) → temp i a ≡ a
  unfolding temp
  temp_other h = rw (ne_eqb (i % 4) 0 h)

-- a word that lies in the first n bytes
word_take : (w : List ℕ) (n i : ℕ) → 4 * i + 3 < n → word (take n w) i ≡ word w i
word_take w n i h =
    cc (get_or-take n w (4 * i + 0) 0 (omega arith), get_or-take n w (4 * i + 1) 0 (omega arith), get_or-take n w (4 * i + 2) 0 (omega arith), get_or-take n w (4 * i + 3) 0 (omega arith))

-- schedules w and v have their first n words in common: each of these is the same, and each word made from them
module _ (n : ℕ) (w v : List ℕ) (same : take (4 * n) w ≡ take (4 * n) v) where
  word_same : (i : ℕ) → i < n → word w i ≡ word v i
  word_same i h = sym (word_take w (4 * n) i (omega arith)) ∙ ap (λ (x : List ℕ). word x i) same ∙ word_take v (4 * n) i (omega arith)

  next_same : (i : ℕ) → 4 ≤ i → i ≤ n → next_word w i ≡ next_word v i
  unfolding next_word
  next_same i p h = ap₂ (λ (x y : List ℕ). xor_word x (temp i y)) (word_same (i - 4) (omega arith)) (word_same (i - 1) (omega arith))

-- ---- a schedule that is made word by word

-- what the standard says of its first n words
pub record Expanded (key : Block) (n : ℕ) (w : List ℕ) : Type 0 where
  pub from_key : (i : ℕ) → i < 4 → word w i ≡ word key i
  pub from_words : (i : ℕ) → 4 ≤ i → i < n → word w i ≡ next_word w i

module _ {key : Block} where
  -- the key stands in front
  pub expanded_key : {w : List ℕ} → take 16 w ≡ take 16 key → Expanded key 4 w
  expanded_key {w} e = record { from_key = λ i h. word_same 4 w key e i h; from_words = λ i p h. absurd (omega arith) }

  -- w' has the n words of w, and the one made from them
  pub expanded_more : {n : ℕ} {w w' : List ℕ} → 4 ≤ n → 4 * n ≤ length w → Expanded key n w → take (4 * (n + 1)) w' ≡ take (4 * n) w ++ next_word w n →
      Expanded key (n + 1) w'
  expanded_more {n} {w} {w'} h l x e =
      record {
        from_key = λ i k. word_same n w' w before i (omega arith) ∙ x.from_key i k;
        from_words = λ i p k. at i p (eq-or-lt_of_le (omega arith));
      } where
        size : length (take (4 * n) w) ≡ 4 * n
        size = length-take-le (4 * n) w l

        before : take (4 * n) w' ≡ take (4 * n) w
        before = sym (take-take (4 * n) (4 * (n + 1)) w' (omega arith)) ∙ ap (take (4 * n)) e ∙ take_at (take (4 * n) w) _ (4 * n) size

        last : word w' n ≡ next_word w n
        last =
            sym (word_take w' (4 * (n + 1)) n (omega arith)) ∙ ap (λ (y : List ℕ). word y n) e ∙ last_word n (take (4 * n) w) (next_word w n) size (next_length w n)

        at : (i : ℕ) → 4 ≤ i → (i ≡ n) ⊎ (i < n) → word w' i ≡ next_word w' i
        at i p (inl e) = rw e (last ∙ sym (next_same n w' w before n h (omega arith)))
        at i p (inr k) = word_same n w' w before i k ∙ x.from_words i p k ∙ sym (next_same n w' w before i p (omega arith))

  pub expanded_all : {w : List ℕ} → length w ≡ 176 → Expanded key 44 w → IsExpansion key w
  expanded_all l x = record { words = l; from_key = x.from_key; from_words = x.from_words }

-- ---- key_expansion is one

module _ (key : Block) (size : length key ≡ 16) where
  expand_length : (k : ℕ) → length (expand_by k key) ≡ 4 * (4 + k)
  unfolding expand_by
  expand_length zero = size
  expand_length (suc k) = simp length-append (omega (arith, expand_length k, next_length (expand_by k key) (4 + k)))

  expanded : (k : ℕ) → Expanded key (4 + k) (expand_by k key)
  unfolding expand_by
  expanded zero = expanded_key refl
  expanded (suc k) =
      let p : 4 + suc k ≡ 4 + k + 1 = omega arith in
      let w : List ℕ = expand_by k key in
      let l : length w ≡ 4 * (4 + k) = expand_length k in
      let m : length (expand_by (suc k) key) ≡ 4 * (4 + suc k) = expand_length (suc k) in
      rw p
      (expanded_more (omega arith) (omega arith) (expanded k)
      (take_all (4 * (4 + k + 1)) (expand_by (suc k) key) (omega arith) ∙ ap (λ (x : List ℕ). x ++ next_word w (4 + k)) (sym (take_all (4 * (4 + k)) w (omega arith)))))

  pub expansion_is : IsExpansion key (key_expansion key)
  unfolding key_expansion
  expansion_is = expanded_all (expand_length 40) (expanded 40)

-- ---- and the only one

module _ {key w v : List ℕ} (a : IsExpansion key w) (b : IsExpansion key v) where
  -- w and v have n words in common
  abbrev Common : ℕ → Type 0
  Common n = take (4 * n) w ≡ take (4 * n) v

  common_more : (n : ℕ) → n < 44 → Common n → word w n ≡ word v n → Common (n + 1)
  common_more n h e f =
      take_word n w (omega (arith, a.words)) ∙ ap₂ (λ (x y : List ℕ). x ++ y) e f ∙ sym (take_word n v (omega (arith, b.words)))

  common_key : (n : ℕ) → n < 4 → Common n → Common (n + 1)
  common_key n h e = common_more n (omega arith) e (a.from_key n h ∙ sym (b.from_key n h))

  common : (k : ℕ) → k ≤ 40 → Common (4 + k)
  common zero h =
      common_key 3 (omega arith) (common_key 2 (omega arith) (common_key 1 (omega arith) (common_key 0 (omega arith) refl)))
  common (suc k) h =
      let p : 4 + suc k ≡ 4 + k + 1 = omega arith in
      let e : Common (4 + k) = common k (omega arith) in
      rw p
      (common_more (4 + k) (omega arith) e
      (a.from_words (4 + k) (omega arith) (omega arith) ∙ next_same (4 + k) w v e (4 + k) (omega arith) (omega arith)
      ∙ sym (b.from_words (4 + k) (omega arith) (omega arith))))

  pub expansion_one : w ≡ v
  expansion_one = sym (take_all 176 w (omega (arith, a.words))) ∙ common 40 (omega arith) ∙ take_all 176 v (omega (arith, b.words))

pub expansion_only : {key w : List ℕ} → length key ≡ 16 → IsExpansion key w → w ≡ key_expansion key
expansion_only {key} l x = expansion_one x (expansion_is key l)

-- so the two say the same
pub expansion_exactly : (key w : List ℕ) → length key ≡ 16 → (IsExpansion key w) ↔ (w ≡ key_expansion key)
expansion_exactly key w l = (expansion_only l, λ e. rw e (expansion_is key l))
