-- A circuit on words is the circuit on bits, in every lane; so SubBytes on planes is the S-box in every lane, but for hex 63. Assumes nothing.
use mathlib.Core.Path.{◌≡◌, refl, sym, ap, ap₂, ◌∙◌}
use mathlib.Core.List.{List, [], ◌∷◌}
use Prim.Native.Nat.{ℕ, ◌<◌}
use lib.Bits.{bit_xor, bit_and}
use lib.ListN.{get_or, get_or-map}
use Rattle.model.specs.Aes.{xtime, mul_bits, gmul, squares, inverse, bit, affine_bit, affine_bits, s_box}
use Rattle.planes.specs.declared.planes.Planes.{Planes}
use Rattle.planes.specs.Circuit.{Gate, xor, and, gate_of, run, picks, sub_gates, sub_outs, sub_circuit}
use Rattle.planes.specs.Lanes.{planes_of, lane, from_bits, byte_at, Lanewise}
use Rattle.planes.proofs.Lanes.{eight, at_each, bit_xor_law, bit_and_law, bit_zero, ones, all_ones, bits_of, lane_bits, byte_lt}

-- ---- a circuit, in lane l

module _ (l : ℕ) where
  got : (v : List ℕ) (i : ℕ) → bit (get_or v i 0) l ≡ get_or (lane l v) i 0
  unfolding lane
  got v i = sym (ap (λ (d : ℕ). get_or (lane l v) i d) (sym (bit_zero l)) ∙ get_or-map (λ x. bit x l) v i 0)

  gate_lane : (g : Gate) (v : List ℕ) → bit (gate_of g v) l ≡ gate_of g (lane l v)
  unfolding gate_of
  gate_lane (xor i j) v = bit_xor_law (get_or v i 0) (get_or v j 0) l ∙ ap₂ bit_xor (got v i) (got v j)
  gate_lane (and i j) v = bit_and_law (get_or v i 0) (get_or v j 0) l ∙ ap₂ bit_and (got v i) (got v j)

  run_lane : (gs : List Gate) (v : List ℕ) → lane l (run gs v) ≡ run gs (lane l v)
  unfolding run lane
  run_lane [] v = refl
  run_lane (g ∷ gs) v = run_lane gs (gate_of g v ∷ v) ∙ ap (λ (b : ℕ). run gs (b ∷ lane l v)) (gate_lane g v)

  picks_lane : (is v : List ℕ) → lane l (picks is v) ≡ picks is (lane l v)
  unfolding picks lane
  picks_lane [] v = refl
  picks_lane (i ∷ is) v = ap₂ (λ (b : ℕ) (bs : List ℕ). b ∷ bs) (got v i) (picks_lane is v)

  sub_lane : (v : List ℕ) → lane l (sub_circuit v) ≡ sub_circuit (lane l v)
  unfolding sub_circuit
  sub_lane v = picks_lane sub_outs (run sub_gates v) ∙ ap (picks sub_outs) (run_lane sub_gates v)

-- ---- the S-box's circuit on the bits of a byte is the S-box's rule, but for hex 63: compared for all 256 bytes

sub_byte : (x : ℕ) → x < 256 → from_bits (sub_circuit (bits_of x)) ≡ bit_xor (s_box x) 0x63
unfolding xtime mul_bits gmul squares inverse bit affine_bit affine_bits s_box gate_of run picks sub_gates sub_outs sub_circuit from_bits
sub_byte = at_each 256 (λ x. from_bits (sub_circuit (bits_of x))) (λ x. bit_xor (s_box x) 0x63) refl

pub substitutes : (q r : Planes) → planes_of r ≡ sub_circuit (planes_of q) → Lanewise (λ b. bit_xor (s_box b) 0x63) q r
unfolding Lanewise byte_at
substitutes q r e l h =
    ap (λ (v : List ℕ). from_bits (lane l v)) e ∙ ap from_bits (sub_lane l (planes_of q)) ∙ ap (λ (v : List ℕ). from_bits (sub_circuit v)) (lane_bits q l)
    ∙ sub_byte (byte_at q l) (byte_lt q l)

-- ---- hex 63

-- the planes, or the bits of a byte, with those of hex 63 negated
abbrev negated : List ℕ → ℕ → List ℕ
negated v m =
    bit_xor (get_or v 0 0) m ∷ bit_xor (get_or v 1 0) m ∷ get_or v 2 0 ∷ get_or v 3 0 ∷ get_or v 4 0 ∷ bit_xor (get_or v 5 0) m ∷ bit_xor (get_or v 6 0) m ∷ get_or v 7 0 ∷ []

negated_byte : (x : ℕ) → x < 256 → from_bits (negated (bits_of x) 1) ≡ bit_xor x 0x63
unfolding from_bits bit
negated_byte = at_each 256 (λ x. from_bits (negated (bits_of x) 1)) (λ x. bit_xor x 0x63) refl

pub negates : (q r : Planes) → planes_of r ≡ negated (planes_of q) ones → Lanewise (λ b. bit_xor b 0x63) q r
unfolding Lanewise planes_of lane byte_at
negates q r e l h =
    let one : (x : ℕ) → bit (bit_xor x ones) l ≡ bit_xor (bit x l) 1 = λ x. bit_xor_law x ones l ∙ ap (bit_xor (bit x l)) (all_ones l h) in
    ap (λ (v : List ℕ). from_bits (lane l v)) e ∙ ap from_bits (eight (one q.p0) (one q.p1) refl refl refl (one q.p5) (one q.p6) refl)
    ∙ ap (λ (v : List ℕ). from_bits (negated v 1)) (lane_bits q l) ∙ negated_byte (byte_at q l) (byte_lt q l)
