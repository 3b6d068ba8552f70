-- SubWord by a round on planes. Assumes nothing.
use mathlib.Core.Path.{◌≡◌, refl, ap, ◌∙◌}
use mathlib.Core.Bool.{cond}
use mathlib.Core.List.{List, [], ◌∷◌}
use Prim.Native.Nat.{ℕ, ◌+◌, ◌*◌, ◌-◌, ◌%◌, ◌<◌}
use native.Mathlib.Omega.{arith}
use lib.Bits.{bit_xor, xor_zero_r}
use lib.Dec.{ltb}
use lib.ListN.{get_or}
use Rattle.model.specs.Bytes.{tabulate}
use Rattle.model.specs.Aes.{Block, ◌⊕◌, s_box, sub_bytes, shift_rows, round_key, add_round_key, sub_word}
use Rattle.model.proofs.Lists.{from_cong}
use Rattle.planes.specs.declared.planes.Planes.{Planes}
use Rattle.planes.specs.declared.packing.Four.{Four}
use Rattle.planes.specs.Lanes.{planes_of, lane, from_bits, byte_at, lane_of, block_at, Lanewise}
use Rattle.planes.specs.Sliced.{key_planes, all63, SlicedFrom, turn_by}
use Rattle.planes.specs.Rounds.{round_of, rounds_from, cipher_from}
use Rattle.planes.specs.Four.{FourFrom}
use Rattle.planes.proofs.Lanes.{eight, at_each, bit_zero, ones}
use Rattle.planes.proofs.Gates.{negates}
use Rattle.planes.proofs.Blocks.{block_63}
use Rattle.planes.proofs.Keys.{keys_are}

-- ---- keys of 0, and with hex 63

none : Planes
none = record { p0 = 0; p1 = 0; p2 = 0; p3 = 0; p4 = 0; p5 = 0; p6 = 0; p7 = 0 }

only63 : Planes
only63 = record { p0 = ones; p1 = ones; p2 = 0; p3 = 0; p4 = 0; p5 = ones; p6 = ones; p7 = 0 }

none_byte : (l : ℕ) → byte_at none l ≡ 0
unfolding none byte_at lane planes_of from_bits
none_byte l = ap from_bits (eight (bit_zero l) (bit_zero l) (bit_zero l) (bit_zero l) (bit_zero l) (bit_zero l) (bit_zero l) (bit_zero l))

none_block : (k b r : ℕ) → block_at k b none ≡ round_key [] r
unfolding block_at round_key
none_block k b r = from_cong 0 16 (λ i. byte_at none (lane_of k b i)) (λ i. 0) (λ i h. none_byte (lane_of k b i))

has_63 : Lanewise (λ b. bit_xor b 0x63) none only63
unfolding none only63 planes_of
has_63 = negates none only63 refl

-- the words of eleven keys, the last of which has hex 63
abbrev pub last_only : ℕ → ℕ
last_only i = cond (ltb i 80) 0 (get_or (ones ∷ ones ∷ 0 ∷ 0 ∷ 0 ∷ ones ∷ ones ∷ 0 ∷ []) (i - 80) 0)

-- the first and the last are those of the schedule with nothing in it
none_sliced : (k : List ℕ) → tabulate 88 (λ i. get_or k i 0) ≡ tabulate 88 last_only → SlicedFrom 10 (λ b. []) k
unfolding none only63 planes_of
none_sliced k z = record {
  first = λ b hb. ap (block_at 0 b) (keys_are k 0 none (λ i h. word 0 i (omega arith) h ∙ at_each 8 (λ i. last_only (8 * 0 + i)) (λ i. get_or (planes_of none) i 0) refl i h)) ∙ none_block 0 b 0;
  others = λ n h hn b hb. later n (omega arith) b hb;
}
  where
    word : (r i : ℕ) → r < 11 → i < 8 → get_or k (8 * r + i) 0 ≡ last_only (8 * r + i)
    word r i hr h = at_each 88 (λ i. get_or k i 0) last_only z (8 * r + i) (omega arith)

    last : key_planes k 10 ≡ only63
    last = keys_are k 10 only63 (λ i h. word 10 i (omega arith) h ∙ at_each 8 (λ i. last_only (8 * 10 + i)) (λ i. get_or (planes_of only63) i 0) refl i h)

    later : (n : ℕ) → n ≡ 10 → (b : ℕ) → b < 4 → block_at (n % 4) b (key_planes k n) ≡ round_key [] n ⊕ all63
    later n e b hb = rw e (ap (block_at 2 b) last ∙ block_63 2 b hb none only63 has_63 ∙ ap (λ (s : Block). s ⊕ all63) (none_block 2 b 10))

-- ---- the word as every column

abbrev columns : List ℕ → Block
columns x =
    let a = get_or x 0 0 in
    let b = get_or x 1 0 in
    let c = get_or x 2 0 in
    let d = get_or x 3 0 in
    a ∷ b ∷ c ∷ d ∷ a ∷ b ∷ c ∷ d ∷ a ∷ b ∷ c ∷ d ∷ a ∷ b ∷ c ∷ d ∷ []

abbrev first_column : Block → List ℕ
first_column t = get_or t 0 0 ∷ get_or t 1 0 ∷ get_or t 2 0 ∷ get_or t 3 0 ∷ []

-- the last round alone, with these keys: all columns are the same, so that ShiftRows changes nothing
last_round : (x : List ℕ) → first_column (cipher_from 10 [] (columns x)) ≡ sub_word x
unfolding cipher_from rounds_from round_of turn_by add_round_key round_key shift_rows sub_bytes ◌⊕◌ sub_word
last_round x =
    from_cong 0 4 (λ i. bit_xor (s_box (bit_xor (get_or x i 0) 0)) 0) (λ i. s_box (get_or x i 0))
    (λ i h. xor_zero_r (s_box (bit_xor (get_or x i 0) 0)) ∙ ap s_box (xor_zero_r (get_or x i 0)))

pub sub_word_is : (x k : List ℕ) {f y : Four} → tabulate 88 (λ i. get_or k i 0) ≡ tabulate 88 last_only → f.a.bytes ≡ columns x →
    ((ws : ℕ → List ℕ) → SlicedFrom 10 ws k → FourFrom 10 ws f y) → first_column y.a.bytes ≡ sub_word x
sub_word_is x k z is_f is_y =
    ap first_column ((is_y (λ b. []) (none_sliced k z)).is_a ∙ ap (cipher_from 10 []) is_f) ∙ last_round x
