-- Schedules in planes: keys packed and stored, round by round. Assumes nothing.
use mathlib.Core.Path.{◌≡◌, refl, sym, ap, ◌∙◌}
use mathlib.Core.List.{List, ◌++◌, append_assoc}
use Prim.Native.Nat.{ℕ, zero, suc, ◌+◌, ◌*◌, ◌-◌, ◌%◌, ◌<◌, ◌≤◌}
use native.Mathlib.Omega.{arith}
use lib.Bits.{bit_xor}
use lib.ListN.{get_or, length, take, drop, set, get_or-append}
use lib.Seq.{sets-eq, get_or-append-add, get_or-take, length-take-le, drop-drop}
use Rattle.model.specs.Bytes.{over, put}
use Rattle.model.specs.Aes.{Block, ◌⊕◌, xtime, power_of_x, round_key, IsExpansion, key_expansion}
use Rattle.model.proofs.Lists.{entry}
use Rattle.model.proofs.Buffers.{put_length}
use Rattle.model.proofs.Expansion.{expansion_is}
use Rattle.aes.specs.declared.packed.Words.{Words}
use Rattle.aes.specs.Tables.{word_of, state_of}
use Rattle.aes.specs.Round.{IsRoundKey, NextKey}
use Rattle.aes.proofs.Columns.{key_state}
use Rattle.aes.proofs.NextKeys.{power_byte, next_round_key, first_key}
use Rattle.planes.specs.declared.planes.Planes.{Planes}
use Rattle.planes.specs.declared.packing.Halves.{Halves}
use Rattle.planes.specs.Lanes.{planes_of, block_at, Lanewise}
use Rattle.planes.specs.Exchange.{Spread, twice}
use Rattle.planes.specs.Packing.{of_halves}
use Rattle.planes.specs.Sliced.{key_planes, all63, held, IsSliced, by_pair, PairIn, KeyPut, turn_by}
use Rattle.planes.proofs.Halves.{packs}
use Rattle.planes.proofs.Blocks.{block_63, turned_block}

-- ---- planes stored

pub stores : (k : List ℕ) (at : ℕ) (x : Planes) → at + 8 ≤ length k →
    set (set (set (set (set (set (set (set k at x.p0) (at + 1) x.p1) (at + 2) x.p2) (at + 3) x.p3) (at + 4) x.p4) (at + 5) x.p5) (at + 6) x.p6) (at + 7) x.p7
    ≡ put k at (planes_of x)
unfolding put over planes_of
stores k at x h =
    let e1 : at + 1 ≡ suc at = omega arith in
    let e2 : at + 2 ≡ suc (suc at) = omega arith in
    let e3 : at + 3 ≡ suc (suc (suc at)) = omega arith in
    let e4 : at + 4 ≡ suc (suc (suc (suc at))) = omega arith in
    let e5 : at + 5 ≡ suc (suc (suc (suc (suc at)))) = omega arith in
    let e6 : at + 6 ≡ suc (suc (suc (suc (suc (suc at))))) = omega arith in
    let e7 : at + 7 ≡ suc (suc (suc (suc (suc (suc (suc at)))))) = omega arith in
    rw (e1, e2, e3, e4, e5, e6, e7) (sets-eq (planes_of x) k at h ∙ rw (drop-drop, append_assoc))

-- what stands in a list after that, at the place and before it
module _ (k v : List ℕ) (at : ℕ) (room : at + length v ≤ length k) where
  put_here : (i : ℕ) → i < length v → get_or (put k at v) (at + i) 0 ≡ get_or v i 0
  unfolding put over
  put_here i h =
      ap (λ (n : ℕ). get_or (put k at v) (n + i) 0) (sym (length-take-le at k (omega arith)))
      ∙ get_or-append-add (take at k) (v ++ drop (length v) (drop at k)) i 0 ∙ get_or-append v (drop (length v) (drop at k)) 0 i h

  put_before : (j : ℕ) → j < at → get_or (put k at v) j 0 ≡ get_or k j 0
  unfolding put over
  put_before j h =
      get_or-append (take at k) (v ++ drop (length v) (drop at k)) 0 j (omega (arith, length-take-le at k (omega arith))) ∙ get_or-take at k j 0 h

eight_words : (x : Planes) → length (planes_of x) ≡ 8
unfolding planes_of
eight_words x = refl

made_of : {a b c d e f g h a' b' c' d' e' f' g' h' : ℕ} → a ≡ a' → b ≡ b' → c ≡ c' → d ≡ d' → e ≡ e' → f ≡ f' → g ≡ g' → h ≡ h' →
    ◌≡◌ {A = Planes} (record { p0 = a; p1 = b; p2 = c; p3 = d; p4 = e; p5 = f; p6 = g; p7 = h }) (record { p0 = a'; p1 = b'; p2 = c'; p3 = d'; p4 = e'; p5 = f'; p6 = g'; p7 = h' })
made_of p q r s t u v w = cc

-- the keys of a round are told by their eight words
pub keys_are : (k : List ℕ) (r : ℕ) (x : Planes) → ((i : ℕ) → i < 8 → get_or k (8 * r + i) 0 ≡ get_or (planes_of x) i 0) → key_planes k r ≡ x
unfolding key_planes planes_of
keys_are k r x each =
    made_of (each 0 (omega arith)) (each 1 (omega arith)) (each 2 (omega arith)) (each 3 (omega arith)) (each 4 (omega arith)) (each 5 (omega arith)) (each 6 (omega arith)) (each 7 (omega arith))

key_word : (k : List ℕ) (r i : ℕ) → i < 8 → get_or k (8 * r + i) 0 ≡ get_or (planes_of (key_planes k r)) i 0
unfolding key_planes planes_of
key_word k r i h = sym (entry 0 8 (λ b. get_or k (8 * r + b) 0) i h)

-- ---- a round's key in planes, and stored

by_pair_law : (u v s t : List ℕ) (r : ℕ) → s ≡ round_key u r → t ≡ round_key v r → (b : ℕ) → by_pair s t b ≡ round_key (by_pair u v b) r
by_pair_law u v s t r e f zero = e
by_pair_law u v s t r e f (suc zero) = e
by_pair_law u v s t r e f (suc (suc b)) = f

held_later : (r : ℕ) → (r ≡ 0 → ⊥) → (s : Block) → held r s ≡ s ⊕ all63
unfolding held
held_later zero n s = absurd (n refl)
held_later (suc r) n s = refl

-- the keys x and y, turned back to g and h, and these spread
pub pair_in : (r : ℕ) (x y g h : Halves) (p : Planes) → turn_by (r % 4) (of_halves g) ≡ of_halves x → turn_by (r % 4) (of_halves h) ≡ of_halves y →
    Spread (twice (record { a = g.first; b = g.second; c = h.first; d = h.second })) p → PairIn r x y p
unfolding PairIn of_halves twice planes_of
pair_in r x y g h p is_g is_h is_p = each
  where
    q : Planes
    q = twice (record { a = g.first; b = g.second; c = h.first; d = h.second })

    each : (b : ℕ) → b < 4 → block_at (r % 4) b p ≡ by_pair (of_halves x) (of_halves y) b
    each zero l = turned_block p 0 (of_halves g) (packs q p is_p 0 l (of_halves g) refl) (r % 4) (omega arith) ∙ is_g
    each (suc zero) l = turned_block p 1 (of_halves g) (packs q p is_p 1 l (of_halves g) refl) (r % 4) (omega arith) ∙ is_g
    each (suc (suc zero)) l = turned_block p 2 (of_halves h) (packs q p is_p 2 l (of_halves h) refl) (r % 4) (omega arith) ∙ is_h
    each (suc (suc (suc zero))) l = turned_block p 3 (of_halves h) (packs q p is_p 3 l (of_halves h) refl) (r % 4) (omega arith) ∙ is_h
    each (suc (suc (suc (suc b)))) l = absurd (omega arith)

-- q are the planes as they are written: in round 0, and with hex 63 in the others
HeldIn : ℕ → Halves → Halves → Planes → Type 0
HeldIn r x y q = (b : ℕ) → b < 4 → block_at (r % 4) b q ≡ held r (by_pair (of_halves x) (of_halves y) b)

held_first : (r : ℕ) (x y : Halves) (p : Planes) → r ≡ 0 → PairIn r x y p → HeldIn r x y p
unfolding PairIn HeldIn held
held_first r x y p e is_p b hb = is_p b hb ∙ ap (λ (n : ℕ). held n (by_pair (of_halves x) (of_halves y) b)) (sym e)

held_63 : (r : ℕ) (x y : Halves) (p q : Planes) → (r ≡ 0 → ⊥) → PairIn r x y p → Lanewise (λ b. bit_xor b 0x63) p q → HeldIn r x y q
unfolding PairIn HeldIn
held_63 r x y p q n is_p is_q b hb =
    block_63 (r % 4) b hb p q is_q ∙ ap (λ (s : Block). s ⊕ all63) (is_p b hb) ∙ sym (held_later r n (by_pair (of_halves x) (of_halves y) b))

module _ (r : ℕ) (x y : Halves) (k k' : List ℕ) (hr : r < 11) (l : length k ≡ 88) where
  key_put : (q : Planes) → HeldIn r x y q → k' ≡ put k (8 * r) (planes_of q) → KeyPut r x y k k'
  unfolding HeldIn
  key_put q is_q e = record {
    size = ap length e ∙ put_length k (8 * r) (planes_of q) room ∙ l;
    here = λ b hb. ap (block_at (r % 4) b) written ∙ is_q b hb;
    before =
        λ n g. keys_are k' n (key_planes k n) (λ i h. ap (λ (l : List ℕ). get_or l (8 * n + i) 0) e ∙ put_before k (planes_of q) (8 * r) room (8 * n + i) (omega arith) ∙ key_word k n i h);
  }
    where
      room : 8 * r + length (planes_of q) ≤ length k
      room = omega (arith, eight_words q)

      written : key_planes k' r ≡ q
      written = keys_are k' r q (λ i h. ap (λ (l : List ℕ). get_or l (8 * r + i) 0) e ∙ put_here k (planes_of q) (8 * r) room i (omega (arith, eight_words q)))

  pub first_put : (p : Planes) → r ≡ 0 → PairIn r x y p → k' ≡ put k (8 * r) (planes_of p) → KeyPut r x y k k'
  first_put p z is_p e = key_put p (held_first r x y p z is_p) e

  pub later_put : (p q : Planes) → (r ≡ 0 → ⊥) → PairIn r x y p → Lanewise (λ b. bit_xor b 0x63) p q → k' ≡ put k (8 * r) (planes_of q) → KeyPut r x y k k'
  later_put p q n is_p is_q e = key_put q (held_63 r x y p q n is_p is_q) e

-- ---- the loop

-- the keys before round r stand in k, the schedule u's in blocks 0 and 1, and v's in the others
pub record SlicedTo (u v : List ℕ) (r : ℕ) (k : List ℕ) : Type 0 where
  pub within : r ≤ 11
  pub size : length k ≡ 88
  pub so_far : (n : ℕ) → n < r → (b : ℕ) → b < 4 → block_at (n % 4) b (key_planes k n) ≡ held n (round_key (by_pair u v b) n)

pub sliced_start : {u v k : List ℕ} → length k ≡ 88 → SlicedTo u v 0 k
sliced_start l = record { within = omega arith; size = l; so_far = λ n h. absurd (omega arith) }

data Side (n r : ℕ) : Type 0 where
  less : n < r → Side n r
  same : n ≡ r → Side n r

side : (n r d : ℕ) → n < r + 1 → r - n ≡ d → Side n r
side n r zero h e = same (omega arith)
side n r (suc d) h e = less (omega arith)

-- x and y are the keys of round r
pub sliced_turn : {u v k k' : List ℕ} {r : ℕ} {x y : Halves} → SlicedTo u v r k → r < 11 → of_halves x ≡ round_key u r → of_halves y ≡ round_key v r → KeyPut r x y k k' →
    SlicedTo u v (r + 1) k'
sliced_turn {u} {v} {k} {k'} {r} {x} {y} inv hr is_x is_y new = record { within = omega arith; size = new.size; so_far = λ n h b hb. each n b hb (side n r (r - n) h refl) }
  where
    each : (n b : ℕ) → b < 4 → Side n r → block_at (n % 4) b (key_planes k' n) ≡ held n (round_key (by_pair u v b) n)
    each n b hb (less g) = ap (block_at (n % 4) b) (new.before n g) ∙ inv.so_far n g b hb
    each n b hb (same g) = rw g (new.here b hb ∙ ap (held r) (by_pair_law u v (of_halves x) (of_halves y) r is_x is_y b))

pub sliced_end : {u v k : List ℕ} {r : ℕ} → SlicedTo u v r k → 11 ≤ r → IsSliced (by_pair u v) k
unfolding IsSliced held
sliced_end inv h = record {
  first = λ b hb. inv.so_far 0 (omega arith) b hb;
  others = λ n h0 hn b hb. inv.so_far n (omega arith) b hb ∙ held_later n (λ e. omega arith) (round_key (by_pair _ _ b) n);
}

-- ---- the loop of two keys: x and y are those of round r, and rc the round constant of the next

abbrev schedule_of : Words → List ℕ
schedule_of x = key_expansion (state_of x)

pub record Slicing (x₀ y₀ : Words) (k : List ℕ) (x y : Words) (rc r : ℕ) : Type 0 where
  pub so_far : SlicedTo (schedule_of x₀) (schedule_of y₀) r k
  pub is_x : r < 11 → IsRoundKey (schedule_of x₀) r x
  pub is_y : r < 11 → IsRoundKey (schedule_of y₀) r y
  pub is_constant : rc ≡ power_of_x r

expanded : (x : Words) → IsExpansion (state_of x) (schedule_of x)
unfolding state_of word_of
expanded x = expansion_is (state_of x) refl

pub slicing_start : (x y : Words) (k : List ℕ) → length k ≡ 88 → Slicing x y k x y 1 0
unfolding power_of_x
slicing_start x y k l = record {
  so_far = sliced_start l;
  is_x = λ h. first_key (state_of x) (schedule_of x) (expanded x) x refl;
  is_y = λ h. first_key (state_of y) (schedule_of y) (expanded y) y refl;
  is_constant = refl;
}

-- the constant is a byte
pub slicing_byte : {x₀ y₀ x y : Words} {k : List ℕ} {rc r : ℕ} → Slicing x₀ y₀ k x y rc r → rc < 256
slicing_byte {r = r} inv = rw inv.is_constant (power_byte r)

pub slicing_turn : {x₀ y₀ x y x' y' : Words} {k k' : List ℕ} {rc rc' r : ℕ} (g h : Halves) → Slicing x₀ y₀ k x y rc r → r < 11 → of_halves g ≡ state_of x → of_halves h ≡ state_of y →
    KeyPut r g h k k' → NextKey x rc x' → NextKey y rc y' → rc' ≡ xtime rc → Slicing x₀ y₀ k' x' y' rc' (r + 1)
unfolding power_of_x
slicing_turn {x₀} {y₀} {x} {y} {x'} {y'} {r = r} g h inv hr is_g is_h new next_x next_y is_rc =
    let e : r + 1 ≡ suc r = omega arith in
    record {
      so_far = sliced_turn inv.so_far hr (is_g ∙ key_state (schedule_of x₀) r x (inv.is_x hr)) (is_h ∙ key_state (schedule_of y₀) r y (inv.is_y hr)) new;
      is_x = λ l. next_round_key (expanded x₀) r (omega arith) x x' (inv.is_x hr) (rw inv.is_constant at next_x);
      is_y = λ l. next_round_key (expanded y₀) r (omega arith) y y' (inv.is_y hr) (rw inv.is_constant at next_y);
      is_constant = rw (e, ← inv.is_constant) is_rc;
    }

pub slicing_end : {x₀ y₀ x y : Words} {k i j : List ℕ} {rc r : ℕ} → Slicing x₀ y₀ k x y rc r → 11 ≤ r → state_of x₀ ≡ i → state_of y₀ ≡ j →
    IsSliced (by_pair (key_expansion i) (key_expansion j)) k
slicing_end {k = k} inv h is_x is_y = rw (← is_x, ← is_y) (sliced_end inv.so_far h)

-- ---- one schedule for all

by_one : (w : List ℕ) (b : ℕ) → by_pair w w b ≡ w
by_one w zero = refl
by_one w (suc zero) = refl
by_one w (suc (suc b)) = refl

pub sliced_one : (w k : List ℕ) → IsSliced (by_pair w w) k → IsSliced (λ b. w) k
unfolding IsSliced
sliced_one w k sliced = record {
  first = λ b hb. sliced.first b hb ∙ ap (λ (v : List ℕ). round_key v 0) (by_one w b);
  others = λ n h0 hn b hb. sliced.others n h0 hn b hb ∙ ap (λ (v : List ℕ). round_key v n ⊕ all63) (by_one w b);
}
