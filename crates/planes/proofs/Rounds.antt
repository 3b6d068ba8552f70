-- The rounds on planes, one after the other: each block goes through the rounds of the cipher. Assumes nothing.
use mathlib.Core.Path.{◌≡◌, refl, sym, ap, ap₂, ◌∙◌}
use mathlib.Core.List.{List}
use Prim.Native.Nat.{ℕ, zero, suc, ◌+◌, ◌-◌, ◌%◌, ◌<◌, ◌≤◌}
use native.Mathlib.Omega.{arith}
use borrow.Author.Tests.{ne_eqb}
use lib.Bits.{bit_xor}
use lib.ListN.{length}
use Rattle.model.specs.Aes.{Block, ◌⊕◌, s_box, sub_bytes, shift_rows, mix_columns, round_key, add_round_key, aes_round, rounds, cipher}
use Rattle.model.proofs.Xor.{⊕_assoc, ⊕_self, ⊕_zero}
use Rattle.model.proofs.XorRules.{xors}
use Rattle.planes.specs.declared.planes.Planes.{Planes}
use Rattle.planes.specs.declared.packing.Four.{Four}
use Rattle.planes.specs.Lanes.{block_at, Lanewise, Added}
use Rattle.planes.specs.Mixing.{MixedAt}
use Rattle.planes.specs.Packing.{Packed, Unpacked}
use Rattle.planes.specs.Sliced.{key_planes, all63, SlicedFrom, turn_by}
use Rattle.planes.specs.Rounds.{round_of, rounds_from, cipher_from}
use Rattle.planes.specs.Four.{FourFrom, FourIs}
use Rattle.planes.proofs.Blocks.{sub_block, add_block, shifts, turned_block, mix_block, shift_63, mix_63}

-- ---- one round

data Last (r : ℕ) : Type 0 where
  yes : r ≡ 10 → Last r
  no : (r ≡ 10 → ⊥) → Last r

is_last : (r n : ℕ) → r < 11 → 10 - r ≡ n → Last r
is_last r zero h e = yes (omega arith)
is_last r (suc n) h e = no (λ g. omega arith)

-- hex 63 twice is none
twice_63 : (s t : Block) → (s ⊕ all63) ⊕ (t ⊕ all63) ≡ s ⊕ t
twice_63 s t = simp xors

undone : (s : Block) → length s ≡ 16 → (s ⊕ all63) ⊕ all63 ≡ s
undone s l = ⊕_assoc s all63 all63 ∙ ap (λ (z : Block). s ⊕ z) (⊕_self all63) ∙ ⊕_zero s l

mixed_length : (s : Block) → length (mix_columns s) ≡ 16
unfolding mix_columns
mixed_length s = refl

shifted_length : (s : Block) → length (shift_rows s) ≡ 16
unfolding shift_rows
shifted_length s = refl

mixed_63 : (k b : ℕ) (q : Planes) (s : Block) → length s ≡ 16 → block_at k b q ≡ s ⊕ all63 → mix_columns (block_at k b q) ≡ mix_columns s ⊕ all63
mixed_63 k b q s l e =
    let m : Block = mix_columns (block_at k b q) in
    let back : m ⊕ all63 ≡ mix_columns s = sym (mix_63 k b q) ∙ ap mix_columns (ap (λ (z : Block). z ⊕ all63) e ∙ undone s l) in
    sym (undone m (mixed_length (block_at k b q))) ∙ ap (λ (z : Block). z ⊕ all63) back

-- block b under its schedule
module _ (k : List ℕ) (f : ℕ) (ws : ℕ → List ℕ) (sliced : SlicedFrom f ws k) (b : ℕ) (hb : b < 4) where
  first_added : (q x : Planes) → Added q (key_planes k 0) x → block_at 0 b x ≡ add_round_key (ws b) 0 (block_at 0 b q)
  unfolding add_round_key
  first_added q x e = add_block 0 b hb q (key_planes k 0) x e ∙ ap (λ (z : Block). block_at 0 b q ⊕ z) (sliced.first b hb)

  -- hex 63 in the key, and that which SubBytes left out
  key_added : (r : ℕ) (q x : Planes) (s : Block) → f ≤ r → r < 11 → Added q (key_planes k r) x → block_at (r % 4) b q ≡ s ⊕ all63 → block_at (r % 4) b x ≡ add_round_key (ws b) r s
  unfolding add_round_key
  key_added r q x s hf hr e is_q =
      add_block (r % 4) b hb q (key_planes k r) x e ∙ ap₂ (λ (y z : Block). y ⊕ z) is_q (sliced.others r hf hr b hb) ∙ twice_63 s (round_key (ws b) r)

  -- SubBytes, with ShiftRows, which it leaves out
  subbed : (r : ℕ) (q s : Planes) → 0 < r → Lanewise (λ b. bit_xor (s_box b) 0x63) q s → block_at (r % 4) b s ≡ shift_rows (sub_bytes (block_at ((r - 1) % 4) b q)) ⊕ all63
  subbed r q s h0 is_s =
      let n : ℕ = (r - 1) % 4 in
      let e : r % 4 ≡ (n + 1) % 4 = omega arith in
      ap (λ (i : ℕ). block_at i b s) e ∙ shifts n b s (omega arith) ∙ ap shift_rows (sub_block n b hb q s is_s) ∙ shift_63 (sub_bytes (block_at n b q))

  round_is : (r : ℕ) (q s m x : Planes) → 0 < r → f ≤ r → r < 11 → Lanewise (λ b. bit_xor (s_box b) 0x63) q s → MixedAt r s m → Added m (key_planes k r) x →
      block_at (r % 4) b x ≡ round_of (ws b) r (block_at ((r - 1) % 4) b q)
  unfolding round_of aes_round
  round_is r q s m x h0 hf hr is_s is_m is_x = go (is_last r (10 - r) hr refl)
    where
      before : Block
      before = shift_rows (sub_bytes (block_at ((r - 1) % 4) b q))

      go : Last r → block_at (r % 4) b x ≡ round_of (ws b) r (block_at ((r - 1) % 4) b q)
      go (yes e) = key_added r m x before hf hr is_x (ap (block_at (r % 4) b) (is_m.last e) ∙ subbed r q s h0 is_s) ∙ rw e refl
      go (no n) =
          key_added r m x (mix_columns before) hf hr is_x
          (mix_block (r % 4) b (omega arith) hb s m (is_m.other n) ∙ mixed_63 (r % 4) b s before (shifted_length (sub_bytes (block_at ((r - 1) % 4) b q))) (subbed r q s h0 is_s)) ∙ rw (ne_eqb r 10 n) refl

-- ---- the loop: what holds of the planes q before round i, when q₀ were the planes before round r

pub record Through (k : List ℕ) (r : ℕ) (q₀ : Planes) (i : ℕ) (q : Planes) : Type 0 where
  pub past : 0 < r
  pub since : r ≤ i
  pub within : i ≤ 11
  pub state : (ws : ℕ → List ℕ) → SlicedFrom r ws k → (b : ℕ) → b < 4 → block_at ((i - 1) % 4) b q ≡ rounds_from (ws b) r (i - r) (block_at ((r - 1) % 4) b q₀)

pub through_start : {k : List ℕ} {r : ℕ} {q₀ : Planes} → 0 < r → r < 12 → Through k r q₀ r q₀
unfolding rounds_from
through_start {k} {r} {q₀} h0 h =
    let e : 0 ≡ r - r = omega arith in
    record {
      past = h0;
      since = omega arith;
      within = omega arith;
      state = λ ws sliced b hb. ap (λ (n : ℕ). rounds_from (ws b) r n (block_at ((r - 1) % 4) b q₀)) e;
    }

pub through_turn : {k : List ℕ} {r i : ℕ} {q₀ q s m x : Planes} → Through k r q₀ i q → i < 11 → Lanewise (λ b. bit_xor (s_box b) 0x63) q s → MixedAt i s m → Added m (key_planes k i) x →
    Through k r q₀ (i + 1) x
unfolding rounds_from
through_turn {k} {r} {i} {q₀} {q} {s} {m} {x} inv h is_s is_m is_x =
    let now : i ≡ i + 1 - 1 = omega arith in
    let more : suc (i - r) ≡ i + 1 - r = omega (arith, inv.since) in
    let this : i ≡ r + (i - r) = omega (arith, inv.since) in
    record {
      past = inv.past;
      since = omega (arith, inv.since);
      within = omega arith;
      state =
          λ ws sliced b hb.
          ap (λ (n : ℕ). block_at (n % 4) b x) (sym now) ∙ round_is k r ws sliced b hb i q s m x (omega (arith, inv.past, inv.since)) inv.since h is_s is_m is_x
          ∙ ap (round_of (ws b) i) (inv.state ws sliced b hb) ∙ ap (λ (n : ℕ). round_of (ws b) n (rounds_from (ws b) r (i - r) (block_at ((r - 1) % 4) b q₀))) this
          ∙ ap (λ (n : ℕ). rounds_from (ws b) r n (block_at ((r - 1) % 4) b q₀)) more;
    }

-- ---- four blocks

pub ciphers : (k : List ℕ) (r : ℕ) {i : ℕ} {x y : Four} (p : Planes) {q₀ q : Planes} → Packed x p → Added p (key_planes k 0) q₀ → Through k r q₀ i q → 11 ≤ i → Unpacked q y →
    (ws : ℕ → List ℕ) → SlicedFrom r ws k → FourFrom r ws x y
unfolding cipher_from
ciphers k r {i} p {q₀} {q} is_p is-q₀ inv h is_y ws sliced =
    let e : 11 ≡ i = omega (arith, inv.within) in
    let each : (b : ℕ) → b < 4 → (s : Block) → block_at 0 b p ≡ s → block_at 2 b q ≡ cipher_from r (ws b) s =
    λ b hb s f.
    ap (λ (n : ℕ). block_at ((n - 1) % 4) b q) e ∙ inv.state ws sliced b hb ∙ ap (λ (n : ℕ). rounds_from (ws b) r (n - r) (block_at ((r - 1) % 4) b q₀)) (sym e)
    ∙ ap (rounds_from (ws b) r (11 - r))
    (turned_block q₀ b (add_round_key (ws b) 0 s) (first_added k r ws sliced b hb p q₀ is-q₀ ∙ ap (add_round_key (ws b) 0) f) ((r - 1) % 4) (omega arith)) in
    record {
      is_a = is_y.is_a ∙ each 0 (omega arith) _ is_p.is_a;
      is_b = is_y.is_b ∙ each 1 (omega arith) _ is_p.is_b;
      is_c = is_y.is_c ∙ each 2 (omega arith) _ is_p.is_c;
      is_d = is_y.is_d ∙ each 3 (omega arith) _ is_p.is_d;
    }

-- from round 1 on it is the whole cipher
pub encrypts : {ws : ℕ → List ℕ} {x y : Four} → FourFrom 1 ws x y → FourIs ws x y
unfolding cipher_from turn_by rounds_from round_of cipher rounds
encrypts f = record { is_a = f.is_a; is_b = f.is_b; is_c = f.is_c; is_d = f.is_d }
