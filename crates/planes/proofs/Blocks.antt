-- Each block in the planes, through the steps of a round. Assumes nothing.
use mathlib.Core.Path.{◌≡◌, refl, sym, ap, ap₂, ◌∙◌}
use Prim.Native.Nat.{ℕ, zero, suc, ◌+◌, ◌*◌, ◌/◌, ◌%◌, ◌<◌}
use native.Mathlib.Omega.{arith}
use lib.Bits.{bit_xor}
use lib.ListN.{get_or}
use Rattle.model.specs.Bytes.{tabulate}
use Rattle.model.specs.Aes.{Block, ◌⊕◌, s_box, mix_byte, mix_word, sub_bytes, shift_rows, mix_columns}
use Rattle.model.proofs.Lists.{entry, from_cong}
use Rattle.model.proofs.XorRules.{sums}
use Rattle.model.proofs.Mix.{xtime_sum, mix_sum}
use Rattle.planes.specs.declared.planes.Planes.{Planes}
use Rattle.planes.specs.Lanes.{byte_at, lane_of, block_at, Lanewise, Added}
use Rattle.planes.specs.Mixing.{below, MixedBy}
use Rattle.planes.specs.Sliced.{turn_by, all63}
use Rattle.planes.proofs.Lanes.{Agree, at_both, byte_lt}

in_lanes : (m n b : ℕ) → b < 4 → m % 4 * 16 + n % 4 * 4 + b < 64
in_lanes m n b h = omega arith

lane_lt : (k b i : ℕ) → b < 4 → lane_of k b i < 64
lane_lt k b i h = in_lanes i (i / 4 + k * (i % 4)) b h

at_byte : (k b : ℕ) (q : Planes) (i : ℕ) → i < 16 → byte_at q (lane_of k b i) ≡ get_or (block_at k b q) i 0
unfolding block_at
at_byte k b q i h = sym (entry 0 16 (λ i. byte_at q (lane_of k b i)) i h)

-- ---- SubBytes and AddRoundKey

module _ (k b : ℕ) (hb : b < 4) where
  pub sub_block : (q r : Planes) → Lanewise (λ b. bit_xor (s_box b) 0x63) q r → block_at k b r ≡ sub_bytes (block_at k b q) ⊕ all63
  unfolding block_at sub_bytes Lanewise ◌⊕◌ all63
  sub_block q r e =
      from_cong 0 16 (λ i. byte_at r (lane_of k b i)) (λ i. bit_xor (s_box (get_or (block_at k b q) i 0)) 0x63)
      (λ i h. e (lane_of k b i) (lane_lt k b i hb) ∙ ap (λ (x : ℕ). bit_xor (s_box x) 0x63) (at_byte k b q i h))

  pub block_63 : (q r : Planes) → Lanewise (λ b. bit_xor b 0x63) q r → block_at k b r ≡ block_at k b q ⊕ all63
  unfolding block_at Lanewise ◌⊕◌ all63
  block_63 q r e =
      from_cong 0 16 (λ i. byte_at r (lane_of k b i)) (λ i. bit_xor (get_or (block_at k b q) i 0) 0x63)
      (λ i h. e (lane_of k b i) (lane_lt k b i hb) ∙ ap (λ (x : ℕ). bit_xor x 0x63) (at_byte k b q i h))

  pub add_block : (p q r : Planes) → Added p q r → block_at k b r ≡ block_at k b p ⊕ block_at k b q
  unfolding block_at ◌⊕◌ Added
  add_block p q r e =
      from_cong 0 16 (λ i. byte_at r (lane_of k b i)) (λ i. bit_xor (get_or (block_at k b p) i 0) (get_or (block_at k b q) i 0))
      (λ i h. e (lane_of k b i) (lane_lt k b i hb) ∙ ap₂ bit_xor (at_byte k b p i h) (at_byte k b q i h))

-- ---- ShiftRows, left out once more

pub shifts : (k b : ℕ) (q : Planes) → k < 4 → block_at ((k + 1) % 4) b q ≡ shift_rows (block_at k b q)
unfolding block_at shift_rows
shifts zero b q h = refl
shifts (suc zero) b q h = refl
shifts (suc (suc zero)) b q h = refl
shifts (suc (suc (suc zero))) b q h = refl
shifts (suc (suc (suc (suc k)))) b q h = absurd (omega arith)

-- and as often as it is left out
pub turned_block : (p : Planes) (b : ℕ) (s : Block) → block_at 0 b p ≡ s → (k : ℕ) → k < 4 → block_at k b p ≡ turn_by k s
unfolding turn_by
turned_block p b s e zero h = e
turned_block p b s e (suc k) h =
    let m : (k + 1) % 4 ≡ suc k = omega arith in
    ap (λ (n : ℕ). block_at n b p) (sym m) ∙ shifts k b p (omega arith) ∙ ap shift_rows (turned_block p b s e k (omega arith))

-- ---- MixColumns

-- the byte in the next row
abbrev next : ℕ → ℕ
next i = (i % 4 + 1) % 4 + 4 * (i / 4)

next_lt : (i : ℕ) → i < 16 → next i < 16
next_lt i h = omega arith

mix_by_next : (s : Block) → tabulate 16 (λ i. mix_byte (get_or s i 0) (get_or s (next i) 0) (get_or s (next (next i)) 0) (get_or s (next (next (next i))) 0)) ≡ mix_columns s
unfolding mix_columns mix_word
mix_by_next s = refl

-- its lane is the one below
NextLanes : ℕ → Type 0
NextLanes k = Agree 4 16 (λ b i. below k (lane_of k b i)) (λ b i. lane_of k b (next i))

next_lanes : (k : ℕ) → k < 4 → NextLanes k
unfolding NextLanes below
next_lanes zero h = refl
next_lanes (suc zero) h = refl
next_lanes (suc (suc zero)) h = refl
next_lanes (suc (suc (suc zero))) h = refl
next_lanes (suc (suc (suc (suc k)))) h = absurd (omega arith)

module _ (k b : ℕ) (hk : k < 4) (hb : b < 4) where
  next_lane : (i : ℕ) → i < 16 → below k (lane_of k b i) ≡ lane_of k b (next i)
  unfolding NextLanes
  next_lane i h = at_both 4 16 (λ b i. below k (lane_of k b i)) (λ b i. lane_of k b (next i)) (next_lanes k hk) b i hb h

  pub mix_block : (q r : Planes) → MixedBy k q r → block_at k b r ≡ mix_columns (block_at k b q)
  unfolding block_at MixedBy
  mix_block q r e =
      let got : ℕ → ℕ = λ i. get_or (block_at k b q) i 0 in
      let byte : ℕ → ℕ = byte_at q in
      from_cong 0 16 (λ i. byte_at r (lane_of k b i)) (λ i. mix_byte (got i) (got (next i)) (got (next (next i))) (got (next (next (next i)))))
      (λ i h.
      let h1 : next i < 16 = next_lt i h in
      let h2 : next (next i) < 16 = next_lt (next i) h1 in
      let h3 : next (next (next i)) < 16 = next_lt (next (next i)) h2 in
      let l : ℕ = lane_of k b i in
      let d1 : below k l ≡ lane_of k b (next i) = next_lane i h in
      let d2 : below k (below k l) ≡ lane_of k b (next (next i)) = ap (below k) d1 ∙ next_lane (next i) h1 in
      let d3 : below k (below k (below k l)) ≡ lane_of k b (next (next (next i))) = ap (below k) d2 ∙ next_lane (next (next i)) h2 in
      e l (lane_lt k b i hb)
      ∙ ap₂ (λ (x y : ℕ). mix_byte x y (byte (below k (below k l))) (byte (below k (below k (below k l))))) (at_byte k b q i h) (ap byte d1 ∙ at_byte k b q (next i) h1)
      ∙ ap₂ (mix_byte (got i) (got (next i))) (ap byte d2 ∙ at_byte k b q (next (next i)) h2) (ap byte d3 ∙ at_byte k b q (next (next (next i))) h3))
      ∙ mix_by_next (block_at k b q)

-- ---- hex 63, through ShiftRows and MixColumns: {02} ⊕ {03} ⊕ {01} ⊕ {01} is {01}

pub shift_63 : (s : Block) → shift_rows (s ⊕ all63) ≡ shift_rows s ⊕ all63
unfolding shift_rows ◌⊕◌ all63
shift_63 s = refl

mix_same : (a b c d h : ℕ) → a < 256 → b < 256 → h < 256 → mix_byte (bit_xor a h) (bit_xor b h) (bit_xor c h) (bit_xor d h) ≡ bit_xor (mix_byte a b c d) h
mix_same a b c d h ha hb hh = rw (mix_sum (bit_xor a h) (bit_xor b h) (bit_xor c h) (bit_xor d h), mix_sum a b c d, xtime_sum a h ha hh, xtime_sum b h hb hh) (simp sums)

-- of a state in planes, whose bytes are bytes
pub mix_63 : (k b : ℕ) (q : Planes) → mix_columns (block_at k b q ⊕ all63) ≡ mix_columns (block_at k b q) ⊕ all63
unfolding mix_columns mix_word block_at ◌⊕◌ all63
mix_63 k b q =
    let byte : ℕ → ℕ = λ i. byte_at q (lane_of k b i) in
    let lt : (i : ℕ) → byte i < 256 = λ i. byte_lt q (lane_of k b i) in
    from_cong 0 16 (λ i. mix_byte (bit_xor (byte i) 0x63) (bit_xor (byte (next i)) 0x63) (bit_xor (byte (next (next i))) 0x63) (bit_xor (byte (next (next (next i)))) 0x63))
    (λ i. bit_xor (mix_byte (byte i) (byte (next i)) (byte (next (next i))) (byte (next (next (next i))))) 0x63)
    (λ i h. mix_same (byte i) (byte (next i)) (byte (next (next i))) (byte (next (next (next i)))) 0x63 (lt i) (lt (next i)) (omega arith))
