-- Demand 3 holds: on every wire of every accepted circuit, from seed to output bit, in the bytes that the operations hand on. Assumes nothing.
use Prim.Native.Nat.{ℕ, ◌+◌, ◌*◌, ◌-◌, ◌≤◌, ◌<◌}
use native.Mathlib.Omega.{arith}
use mathlib.Core.Path.{◌≡◌, refl, sym, ◌∙◌}
use mathlib.Core.Bool.{true}
use mathlib.Core.List.{List, [], ◌∷◌, ◌++◌, map, append_assoc, append-nil}
use borrow.Author.Tests.{le-ltb, le-leb, eq-eqb, not-false}
use lib.ListN.{length, get_or, take}
use lib.Seq.{take_at, length-take-le}
use Rattle.model.specs.declared.Gate.{Gate}
use Rattle.model.specs.declared.Wanted.{Wanted}
use Rattle.model.specs.Circuit.{Circuit, inputs, outputs, gates, gate_at, circuit_of, wire, wires, plain_values}
use Rattle.model.specs.Aes.{Block, block}
use Rattle.model.specs.Tokens.{Garbling, offset, input_zeros, one_token}
use Rattle.model.specs.Garbling.{zero_step, zero_tokens, input_ones}
use Rattle.model.specs.Ending.{hashes, ending_of}
use Rattle.model.specs.Material.{join_blocks, hashed, zero_of, material}
use Rattle.model.specs.Evaluation.{cut, encode, evaluate, stored_at, decode, encode_bytes, evaluate_bytes, decode_bytes, token_at, output_tokens}
use Rattle.model.specs.Demand3.{Allowed, chained, chain_material, chain_zeros, chain_ones, chain_inputs, chain_tokens, chain_bits, carries, distance_at, Demand3, OnlyRoom, DecodesByHash}
use Rattle.model.specs.Refusals.{fine, refuse, ◌then◌, seed_verdict, value_verdict, bits_verdict, values_verdict, tokens_verdict, scheme_verdict, material_verdict, token_verdict, unknown_verdict, made_for, clash_at, clash_verdict}
use Rattle.model.specs.Operations.{garble_verdict, encode_verdict, evaluate_verdict, output_tokens_verdict, decode_verdict}
use Rattle.model.proofs.Lists.{from_cong, entry, map_elements, tabulate_length}
use Rattle.model.proofs.Bits.{told_yes}
use Rattle.model.proofs.Outputs.{outputs_many}
use Rattle.model.proofs.Tokens.{offset_is}
use Rattle.model.proofs.Blocks as B
use Rattle.model.proofs.Blocks.{Blocks, blocks_wide, join_length, join_append, cut_join, token_at_wire}
use Rattle.model.proofs.Accepted.{Within, none, more, map_within, CircuitHolds, accepted_circuit, accepted_header, accepted_output}
use Rattle.model.proofs.Lengths.{input_zeros_blocks, input_ones_blocks, zero_tokens_blocks, hashed_is}
use Rattle.model.proofs.Holds.{Holds, holds_distances, AllHold, hold_at, tokens_blocks}
use Rattle.model.proofs.Verdicts.{then_nothing, first_all, first_each, refuse_fine}
use Rattle.model.proofs.OwnMaterial.{own_material}
use Rattle.model.proofs.Endings.{right}
use Rattle.model.proofs.Stored.{stored_is}
use Rattle.model.proofs.Chain.{inputs_hold, wires_hold, plain_length}

-- ---- the tokens of some wires, from bytes

module _ {k : ℕ} {xs : List Block} (r : Blocks k xs) where
  tokens_at : {ws : List ℕ} → Within k ws → map (token_at (join_blocks xs)) ws ≡ map (λ w. wire (block 0) xs w) ws
  tokens_at within = map_within (token_at (join_blocks xs)) (λ w. wire (block 0) xs w) within (token_at_wire r)

  wires_blocks : {ws : List ℕ} → Within k ws → Blocks (length ws) (map (λ w. wire (block 0) xs w) ws)
  wires_blocks none = B.none
  wires_blocks (more {w = w} h₁ h₂ t) = B.more (blocks_wide r (w - 1) (omega arith)) (wires_blocks t)

-- ---- the first zero tokens are the inputs'

wires_begin : {A : Type 0} (step : List A → Gate → A) (gs : List Gate) (ws : List A) → (t : List A) × (wires step gs ws ≡ ws ++ t)
unfolding wires
wires_begin step [] ws = ([], sym (append-nil ws))
wires_begin step (g ∷ gs) ws =
    let r = wires_begin step gs (ws ++ (step ws g ∷ [])) in
    (step ws g ∷ r.0, r.1 ∙ append_assoc ws (step ws g ∷ []) r.0)

pub zero_tokens_begin : (γ : Garbling) → take (16 * γ.circuit.n) (join_blocks (zero_tokens γ)) ≡ join_blocks (input_zeros γ)
unfolding zero_tokens
zero_tokens_begin γ =
    let r = wires_begin (zero_step γ) γ.circuit.gates (input_zeros γ) in
    rw (r.1, join_append) (take_at (join_blocks (input_zeros γ)) _ (16 * γ.circuit.n) (join_length (input_zeros_blocks γ)))

mapped_at : {A : Type 0} (f : ℕ → A) (d : A) (ws : List ℕ) (i : ℕ) → i < length ws → get_or (map f ws) i d ≡ f (get_or ws i 0)
mapped_at f d ws i h = rw (map_elements f (length ws) ws refl) (entry d (length ws) (λ i. f (get_or ws i 0)) i h)

module _ (c seed : List ℕ) (want : Wanted) (values : List ℕ) (allowed : Allowed c seed want values) where
  abbrev γ : Garbling
  γ = chained c seed want values

  many : length values ≡ (circuit_of c).n
  unfolding circuit_of
  many = allowed.one_each

  holds : CircuitHolds (circuit_of c)
  holds = accepted_circuit c allowed.accepted

  -- the tokens of the inputs and of all wires, as lists
  held : List Block
  held = encode values (input_zeros γ) (input_ones γ)

  left : List Block
  left = evaluate (circuit_of c) held (material γ)

  inputs_held : AllHold (offset γ) values (input_zeros γ) held
  unfolding held
  inputs_held = inputs_hold γ values many allowed.bits

  all_held : AllHold (offset γ) (plain_values (circuit_of c) values) (zero_tokens γ) left
  unfolding held left
  all_held = wires_hold γ values many allowed.bits holds

  as_many : length (plain_values (circuit_of c) values) ≡ (circuit_of c).n + length (circuit_of c).gates
  as_many = plain_length γ values many allowed.bits holds

  left_blocks : Blocks ((circuit_of c).n + length (circuit_of c).gates) left
  left_blocks = rw as_many at (tokens_blocks all_held)

  wires_many : (circuit_of c).n + length (circuit_of c).gates ≡ inputs c + gates c
  unfolding circuit_of
  wires_many = rw (tabulate_length (gates c) (gate_at c))

  -- ---- what the operations hand on

  -- encode gets the inputs' zero and one tokens
  inputs_are : chain_inputs c seed want values ≡ join_blocks held
  unfolding chain_inputs encode_bytes chain_zeros chain_ones held circuit_of
  inputs_are = rw (zero_tokens_begin γ, cut_join (input_zeros_blocks γ), cut_join (input_ones_blocks γ))

  held_blocks : Blocks (circuit_of c).n held
  held_blocks = rw many at (tokens_blocks inputs_held)

  -- and evaluate what was encoded
  tokens_are : chain_tokens c seed want values ≡ join_blocks left
  unfolding chain_tokens evaluate_bytes left chain_material
  tokens_are = rw (inputs_are, cut_join held_blocks)

  -- how many bytes each of them is
  pub inputs_long : length (chain_inputs c seed want values) ≡ 16 * inputs c
  unfolding circuit_of
  inputs_long = rw inputs_are (join_length held_blocks)

  pub tokens_long : length (chain_tokens c seed want values) ≡ 16 * (inputs c + gates c)
  tokens_long = rw (tokens_are, ← wires_many) (join_length left_blocks)

  pub zeros_long : length (chain_zeros c seed want values) ≡ 16 * (inputs c + gates c)
  unfolding chain_zeros
  zeros_long = rw (← wires_many) (join_length (zero_tokens_blocks γ))

  pub ones_long : length (chain_ones c seed want values) ≡ 16 * inputs c
  unfolding chain_ones circuit_of
  ones_long = join_length (input_ones_blocks γ)

  -- a wire's token, as it was left, and its zero token
  left_at : (w : ℕ) → 1 ≤ w → w ≤ inputs c + gates c → token_at (chain_tokens c seed want values) w ≡ wire (block 0) left w
  left_at w h l = rw tokens_are (token_at_wire left_blocks w h (rw wires_many l))

  zero_at_law : (w : ℕ) → 1 ≤ w → w ≤ inputs c + gates c → token_at (chain_zeros c seed want values) w ≡ wire (block 0) (zero_tokens γ) w
  unfolding chain_zeros
  zero_at_law w h l = token_at_wire (zero_tokens_blocks γ) w h (rw wires_many l)

  -- every wire holds its token
  wire_holds : (w : ℕ) → 1 ≤ w → w ≤ inputs c + gates c
      → Holds (offset γ) (carries c values w) (token_at (chain_zeros c seed want values) w) (token_at (chain_tokens c seed want values) w)
  unfolding carries
  wire_holds w h l = rw (left_at w h l, zero_at_law w h l) (hold_at all_held (w - 1) (omega (arith, as_many, wires_many)))

  -- ---- output i, from 0

  held_at : (w : ℕ) → 1 ≤ w → w ≤ (circuit_of c).n + length (circuit_of c).gates → Holds (offset γ) (carries c values w) (zero_of γ w) (wire (block 0) left w)
  unfolding carries zero_of
  held_at w h l = hold_at all_held (w - 1) (omega (arith, as_many))

  -- the tokens of the outputs
  abbrev ends : List Block
  ends = map (λ w. wire (block 0) left w) (circuit_of c).outputs

  module _ (i : ℕ) (more : i < length (circuit_of c).outputs) where
    abbrev output : ℕ
    output = get_or (circuit_of c).outputs i 0

    output_held : Holds (offset γ) (carries c values output) (zero_of γ output) (get_or ends i (block 0))
    output_held =
        let a = accepted_output c i allowed.accepted (rw (outputs_many c) at more) in
        rw (mapped_at (λ w. wire (block 0) left w) (block 0) (circuit_of c).outputs i more) (held_at output a.low (rw wires_many a.high))

    bit_decoded : clash_verdict γ ≡ fine → (ending_of γ.hashed).bit (i + 1) (get_or ends i (block 0)) (stored_at (circuit_of c) (material γ) i) ≡ carries c values output
    unfolding clash_verdict clash_at made_for one_token
    bit_decoded no_clash =
        let apart = refuse_fine _ _ _ (first_each _ _ i no_clash more) in
        rw (stored_is γ i more) ((right γ.hashed).tells (offset_is γ) output_held (i + 1) apart)

    token_known : token_verdict (circuit_of c) ends (material γ) i ≡ fine
    unfolding token_verdict made_for one_token refuse
    token_known = rw (hashed_is γ, stored_is γ i more, (right γ.hashed).knows (offset_is γ) output_held (i + 1))

  ends_are : cut (length (circuit_of c).outputs) (output_tokens (circuit_of c) (chain_tokens c seed want values)) ≡ ends
  unfolding output_tokens
  ends_are =
      let within = holds.outputs_within in
      rw (tokens_are, tokens_at left_blocks within) (cut_join (wires_blocks left_blocks within))

  bits_decoded : clash_verdict γ ≡ fine → chain_bits c seed want values ≡ map (carries c values) (circuit_of c).outputs
  unfolding chain_bits decode_bytes decode chain_material
  bits_decoded no_clash =
      rw (ends_are, hashed_is γ)
      (from_cong 0 (length (circuit_of c).outputs) _ _ (λ i l. bit_decoded i (omega (arith, l)) no_clash)
      ∙ sym (map_elements (carries c values) (length (circuit_of c).outputs) (circuit_of c).outputs refl))

  all_known : unknown_verdict (circuit_of c) (cut (length (circuit_of c).outputs) (output_tokens (circuit_of c) (chain_tokens c seed want values))) (chain_material c seed want values) ≡ fine
  unfolding chain_material unknown_verdict
  all_known = rw ends_are (first_all _ (length (circuit_of c).outputs) token_known)

  -- ---- nothing but 19 refuses what is handed on

  pub outputs_long : length (output_tokens (circuit_of c) (chain_tokens c seed want values)) ≡ 16 * outputs c
  unfolding output_tokens
  outputs_long =
      let within = holds.outputs_within in
      rw (tokens_are, tokens_at left_blocks within, ← outputs_many c) (join_length (wires_blocks left_blocks within))

  material_fine : material_verdict (circuit_of c) (chain_material c seed want values) ≡ fine
  unfolding chain_material
  material_fine =
      let h = (accepted_header c allowed.accepted).sizes in
      own_material γ allowed.known (rw wires_many h.sum) (rw (outputs_many c) (omega (arith, h.m_high, h.sum)))

  bits_fine : bits_verdict values ≡ fine
  unfolding value_verdict refuse
  bits_fine = first_all _ (length values) (λ i h. rw (le-ltb _ _ (allowed.bits i)))

  zeros_front : length (take (16 * inputs c) (chain_zeros c seed want values)) ≡ 16 * inputs c
  zeros_front = length-take-le _ _ (omega (arith, zeros_long))

  pub only_room : OnlyRoom c seed want values
  unfolding garble_verdict encode_verdict evaluate_verdict output_tokens_verdict decode_verdict seed_verdict values_verdict scheme_verdict tokens_verdict refuse ◌then◌
  only_room = record {
    garble_room = λ km kz ko.
        simp (allowed.accepted, eq-eqb _ _ allowed.seed_bytes, allowed.marked, le-leb _ _ allowed.known.low, le-leb _ _ allowed.known.high);
    encode_room = λ k.
        simp (allowed.accepted, eq-eqb _ _ allowed.one_each, bits_fine, eq-eqb _ _ zeros_front, eq-eqb _ _ ones_long);
    evaluate_room = λ k. simp (allowed.accepted, eq-eqb _ _ inputs_long, material_fine);
    output_tokens_room = λ k. simp (allowed.accepted, eq-eqb _ _ tokens_long);
    decode_room = λ k. simp (allowed.accepted, eq-eqb _ _ outputs_long, material_fine, all_known, then_nothing);
  }

-- The theorem.
pub demand_3 : (c seed : List ℕ) (want : Wanted) (values : List ℕ) → Allowed c seed want values → Demand3 c seed want values
unfolding distance_at
demand_3 c seed want values allowed =
    let R = offset_is (chained c seed want values) in
    record {
      at_zero = λ w h l. (holds_distances R (wire_holds c seed want values allowed w h l)).zero_if_0;
      at_one = λ w h l. (holds_distances R (wire_holds c seed want values allowed w h l)).offset_if_1;
      decoded = bits_decoded c seed want values allowed;
    }

-- ---- any tokens, over any material that ends in hashes

pub decodes_by_hash : (c : Circuit) (ts : List Block) (s : List ℕ) → hashed s ≡ true → unknown_verdict c ts s ≡ fine → DecodesByHash c ts s
unfolding unknown_verdict token_verdict decode
decodes_by_hash c ts s e known = record {
  one_agrees = λ i h. unfold ending_of hashes in not-false _ (rw e at (refuse_fine _ _ _ (first_each _ _ i known h)));
  first_is_0 = λ i h. unfold ending_of hashes in rw (entry {A = ℕ} 0 (length c.outputs) _ i h, e) (told_yes _, λ t. rw t);
}
