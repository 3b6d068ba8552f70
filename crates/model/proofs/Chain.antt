-- From seed to output bit: encoded inputs hold their tokens, each gate keeps that, and what all wires hold decodes. Assumes nothing.
use Prim.Native.Nat.{ℕ, suc, ◌+◌, ◌-◌, ◌≤◌}
use native.Mathlib.Omega.{arith}
use mathlib.Core.Path.{◌≡◌, sym, ap, ◌∙◌}
use mathlib.Core.List.{List, [], ◌∷◌, ◌++◌, append_assoc, map}
use lib.ListN.{length, get_or, length-append}
use Rattle.model.specs.declared.Gate.{Gate}
use Rattle.model.specs.Bytes.{from, tabulate}
use Rattle.model.specs.Circuit.{kind_of, wires, gate_value, plain_values}
use Rattle.model.specs.Aes.{Block, ◌⊕◌, block}
use Rattle.model.specs.Tokens.{Garbling, offset, input_zeros, one_token}
use Rattle.model.specs.Garbling.{scheme_of, site_of, zero_step, zero_tokens, input_ones}
use Rattle.model.specs.Material.{header, record_of, records, material}
use Rattle.model.specs.Evaluation.{encode, open_step, open_gates, evaluate}
use Rattle.model.proofs.Bits.{Bit, b0, b1, bit_of}
use Rattle.model.proofs.Circuits.{wires_length}
use Rattle.model.proofs.Tokens.{offset_is, seed_block_length, token_zero, token_one}
use Rattle.model.proofs.Codes.{value_bit}
use Rattle.model.proofs.Gates.{past_record, gate_evaluates}
use Rattle.model.proofs.Lengths.{zero_step_wide}
use Rattle.model.proofs.Accepted.{GateHolds, GatesHold, no_gate_law, gate, CircuitHolds}
use Rattle.model.proofs.Holds.{Holds, AllHold, done, next, zeros_as_many, tokens_as_many, hold_at, hold_snoc}

-- ---- encoding

picked : {v : ℕ} (R x : Block) → length x ≡ 16 → Bit v → Holds R v x (get_or (x ∷ (x ⊕ R) ∷ []) v (block 0))
picked R x h b0 = record { bit = b0; wide = h; token = sym (token_zero R x h) }
picked R x h b1 = record { bit = b1; wide = h; token = sym (token_one R x) }

module _ (R : Block) (f : ℕ → Block) (wide : (i : ℕ) → length (f i) ≡ 16) where
  encode_from : (k : ℕ) (vs : List ℕ) → ((i : ℕ) → get_or vs i 0 ≤ 1)
      → AllHold R vs (from k (length vs) f) (encode vs (from k (length vs) f) (map (λ x. x ⊕ R) (from k (length vs) f)))
  unfolding encode
  encode_from k [] bits = done
  encode_from k (v ∷ vs) bits = next (picked R (f k) (wide k) (bit_of v (bits 0))) (encode_from (suc k) vs (λ i. bits (suc i)))

  -- each value by one of the two tokens of its wire
  pub encode_holds : (n : ℕ) (vs : List ℕ) → length vs ≡ n → ((i : ℕ) → get_or vs i 0 ≤ 1)
      → AllHold R vs (tabulate n f) (encode vs (tabulate n f) (map (λ x. x ⊕ R) (tabulate n f)))
  encode_holds n vs e bits = rw (← e) (encode_from 0 vs bits)

-- ---- gates

module _ (γ : Garbling) where
  -- a gate's wire holds its token, if the wires before it do
  gate_keeps : {vs : List ℕ} {xs ts : List Block} → AllHold (offset γ) vs xs ts → (g : Gate) → GateHolds (suc (length vs)) g → (rest : List ℕ)
      → Holds (offset γ) (gate_value vs g) (zero_step γ xs g)
      (open_step (scheme_of γ.scheme) (record_of γ (kind_of g.code) (site_of γ xs g) ++ rest) ts g)
  unfolding gate_value zero_step open_step site_of
  gate_keeps {vs} {xs} {ts} l g h rest =
      let A = hold_at l (g.a.0 - 1) (omega arith) in
      let B = hold_at l (g.b.0 - 1) (omega arith) in
      record {
        bit = value_bit _ _ _;
        wide = unfold zero_step site_of in (zero_step_wide γ xs g);
        token =
            rw (A.token, B.token, tokens_as_many l, ← zeros_as_many l)
            (gate_evaluates γ (site_of γ xs g) rest _ _ (offset_is γ) h.used A.bit B.bit);
      }

  -- so all wires do: the one induction over the circuit
  pub gates_keep : {w : ℕ} {gs : List Gate} → GatesHold w gs → {vs : List ℕ} {xs ts : List Block} → AllHold (offset γ) vs xs ts
      → w ≡ suc (length vs) → (rest : List ℕ)
      → AllHold (offset γ) (wires gate_value gs vs) (wires (zero_step γ) gs xs) (open_gates (scheme_of γ.scheme) gs (records γ gs xs ++ rest) ts)
  unfolding wires open_gates records
  gates_keep no_gate_law l e rest = l
  gates_keep (gate {g = g} {gs} h f) {vs} {xs} {ts} l e rest =
      let m = records γ gs (xs ++ (zero_step γ xs g ∷ [])) ++ rest in
      rw (append_assoc, past_record γ (kind_of g.code) (site_of γ xs g) m)
      (gates_keep f (hold_snoc l (gate_keeps l g (rw e at h) m)) (simp length-append (omega arith)) rest)

-- ---- the whole chain, of a circuit that keeps its limits

module _ (γ : Garbling) where
  module _ (values : List ℕ) (many : length values ≡ γ.circuit.n) (bits : (i : ℕ) → get_or values i 0 ≤ 1) where
    pub inputs_hold : AllHold (offset γ) values (input_zeros γ) (encode values (input_zeros γ) (input_ones γ))
    unfolding input_zeros input_ones one_token
    inputs_hold = encode_holds (offset γ) _ (λ i. seed_block_length γ (i + 1)) γ.circuit.n values many bits

    module _ (holds : CircuitHolds γ.circuit) where
      pub wires_hold : AllHold (offset γ) (plain_values γ.circuit values) (zero_tokens γ)
          (evaluate γ.circuit (encode values (input_zeros γ) (input_ones γ)) (material γ))
      unfolding plain_values zero_tokens evaluate material header
      wires_hold = gates_keep γ holds.gates_hold inputs_hold (ap suc (sym many)) _

      pub plain_length : length (plain_values γ.circuit values) ≡ γ.circuit.n + length γ.circuit.gates
      unfolding plain_values
      plain_length = wires_length gate_value γ.circuit.gates values ∙ rw many
