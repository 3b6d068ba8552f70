-- A circuit of mark 43 48 and the one of mark 43 49 made from it are the same circuit: what is read back from the bytes so made, and that no operation
-- tells the two apart. Assumes nothing.
use Prim.Native.Nat.{ℕ, zero, suc, ◌+◌, ◌*◌, ◌-◌, ◌≤◌, ◌<◌}
use native.Mathlib.Nat.{le_of_suc-le-suc, not-suc-le-zero}
use native.Mathlib.Omega.{arith}
use mathlib.Core.Path.{◌≡◌, refl, sym, ◌∙◌}
use mathlib.Core.Bool.{true, false}
use mathlib.Core.List.{List, [], ◌∷◌, ◌++◌}
use borrow.Author.Tests.{le-ltb, le-leb, eq-eqb}
use lib.ListN.{length, get_or, drop, length-append, length-drop, get_or-append}
use lib.Seq.{get_or-drop, get_or-append-add}
use Rattle.model.specs.declared.Garbled.{Garbled}
use Rattle.model.specs.declared.Wanted.{Wanted}
use Rattle.model.specs.Bytes.{be16, two}
use Rattle.model.specs.Circuit.{circuit_of, mark_at, inputs, outputs, gates, named, record_at, gate_at, output_record_at, output_at, last_wires, most_outputs, sizes_hold, circuit_length}
use Rattle.model.specs.Refusals.{Verdict, fine, refuse, ◌then◌, head_verdict, record_verdict, output_verdict, outputs_verdict, circuit_verdict}
use Rattle.model.specs.Operations.{Answer, sizes_of, plain_verdict, file_length, garble_verdict, garble_made, encode_verdict, evaluate_verdict, evaluate_calls_of, output_tokens_verdict, decode_verdict, PlainIs, GarbleIs, EncodeIs, EvaluateIs, OutputTokensIs, DecodeIs}
use Rattle.model.specs.Kept.{output_bytes, named_of, StandsFor}
use Rattle.model.proofs.Lists.{from_cong, tabulate_length, entry}
use Rattle.model.proofs.Accepted.{SizesHold, sizes_kept, accepted_header}
use Rattle.model.proofs.OwnMaterial.{two_back}
use Rattle.model.proofs.Verdicts.{then_fine, first_each, first_all, or_true}

-- ---- output records

outputs_long : (ws : List ℕ) → length (output_bytes ws) ≡ 4 * length ws
unfolding output_bytes
outputs_long [] = refl
outputs_long (w ∷ ws) = omega (arith, outputs_long ws)

-- byte i of record k
output_byte : (ws : List ℕ) (k i : ℕ) → k < length ws → i < 4 → get_or (output_bytes ws) (4 * k + i) 0 ≡ get_or (0x43 ∷ 0x4F ∷ two (get_or ws k 0)) i 0
unfolding output_bytes
output_byte [] k i h l = absurd (not-suc-le-zero h)
output_byte (w ∷ ws) zero i h l =
    let at : 4 * 0 + i ≡ i = omega arith in
    rw at (get_or-append (0x43 ∷ 0x4F ∷ two w) (output_bytes ws) 0 i (omega arith))
output_byte (w ∷ ws) (suc k) i h l =
    let at : 4 * suc k + i ≡ 4 + (4 * k + i) = omega arith in
    rw at (get_or-append-add (0x43 ∷ 0x4F ∷ two w) (output_bytes ws) (4 * k + i) 0 ∙ output_byte ws k i (le_of_suc-le-suc h) l)

-- more outputs are allowed by name than without
sizes_by_name : (n m q : ℕ) → SizesHold n m q → sizes_hold true n m q ≡ true
unfolding most_outputs
sizes_by_name n m q h = sizes_kept true n m q h h.m_high

-- ---- no operation tells apart two circuits of which the same is said

-- d is as c is
record Alike (c d : List ℕ) : Type 0 where
  same_verdict : circuit_verdict d ≡ circuit_verdict c
  same_circuit : circuit_of d ≡ circuit_of c
  same_n : inputs d ≡ inputs c
  same_m : outputs d ≡ outputs c
  same_q : gates d ≡ gates c

turned : (c d : List ℕ) → Alike c d → Alike d c
turned c d a = record {
  same_verdict = sym a.same_verdict;
  same_circuit = sym a.same_circuit;
  same_n = sym a.same_n;
  same_m = sym a.same_m;
  same_q = sym a.same_q;
}

module _ (c d : List ℕ) (a : Alike c d) where
  plain_too : (v o : List ℕ) (r : Verdict) (x : List ℕ) → PlainIs c v o r x → PlainIs d v o r x
  unfolding plain_verdict
  plain_too v o r x p = record {
    answered = rw (a.same_verdict, a.same_n, a.same_q) p.answered;
    left = rw (a.same_verdict, a.same_n, a.same_q, a.same_circuit) p.left;
  }

  garble_too : (seed : List ℕ) (want : Wanted) (m z o : List ℕ) (r : Answer Garbled) (m' z' o' : List ℕ)
      → GarbleIs c seed want m z o r m' z' o' → GarbleIs d seed want m z o r m' z' o'
  unfolding garble_verdict garble_made file_length
  garble_too seed want m z o r m' z' o' p = record {
    answered = rw (a.same_verdict, a.same_n, a.same_m, a.same_q, a.same_circuit) p.answered;
    material_left = rw (a.same_verdict, a.same_n, a.same_m, a.same_q, a.same_circuit) p.material_left;
    zeros_left = rw (a.same_verdict, a.same_n, a.same_m, a.same_q, a.same_circuit) p.zeros_left;
    ones_left = rw (a.same_verdict, a.same_n, a.same_m, a.same_q, a.same_circuit) p.ones_left;
  }

  encode_too : (v zs os o : List ℕ) (r : Verdict) (x : List ℕ) → EncodeIs c v zs os o r x → EncodeIs d v zs os o r x
  unfolding encode_verdict
  encode_too v zs os o r x p = record {
    answered = rw (a.same_verdict, a.same_n) p.answered;
    left = rw (a.same_verdict, a.same_n, a.same_circuit) p.left;
  }

  evaluate_too : (ts f o : List ℕ) (r : Answer ℕ) (x : List ℕ) → EvaluateIs c ts f o r x → EvaluateIs d ts f o r x
  unfolding evaluate_verdict evaluate_calls_of
  evaluate_too ts f o r x p = record {
    answered = rw (a.same_verdict, a.same_n, a.same_q, a.same_circuit) p.answered;
    left = rw (a.same_verdict, a.same_n, a.same_q, a.same_circuit) p.left;
  }

  output_tokens_too : (ws o : List ℕ) (r : Verdict) (x : List ℕ) → OutputTokensIs c ws o r x → OutputTokensIs d ws o r x
  unfolding output_tokens_verdict
  output_tokens_too ws o r x p = record {
    answered = rw (a.same_verdict, a.same_n, a.same_m, a.same_q) p.answered;
    left = rw (a.same_verdict, a.same_n, a.same_m, a.same_q, a.same_circuit) p.left;
  }

  decode_too : (ts f o : List ℕ) (r : Verdict) (x : List ℕ) → DecodeIs c ts f o r x → DecodeIs d ts f o r x
  unfolding decode_verdict
  decode_too ts f o r x p = record {
    answered = rw (a.same_verdict, a.same_m, a.same_circuit) p.answered;
    left = rw (a.same_verdict, a.same_m, a.same_circuit) p.left;
  }

-- ---- the circuit made from s
module _ (s : List ℕ) (accepted : circuit_verdict s ≡ fine) (mark : named s ≡ false) where
  abbrev t : List ℕ
  t = named_of s

  abbrev ws : List ℕ
  ws = last_wires (inputs s) (gates s) (outputs s)

  sizes : SizesHold (inputs s) (outputs s) (gates s)
  sizes = (accepted_header s accepted).sizes

  whole : length s ≡ 8 + 7 * gates s
  unfolding circuit_length
  whole = rw mark at (accepted_header s accepted).whole

  as_many : length ws ≡ outputs s
  unfolding last_wires
  as_many = tabulate_length (outputs s) _

  rest_long : length (drop 2 s) ≡ 6 + 7 * gates s
  rest_long = simp length-drop (omega (arith, whole))

  -- a byte past the mark
  past_mark : (j : ℕ) → get_or t (suc (suc j)) 0 ≡ get_or (drop 2 s ++ output_bytes ws) j 0
  unfolding named_of
  past_mark j = refl

  -- what was there is what it was
  byte_kept : (i : ℕ) → 2 ≤ i → i < length s → get_or t i 0 ≡ get_or s i 0
  byte_kept i h l =
      let j : ℕ = i - 2 in
      let a : suc (suc j) ≡ i = omega arith in
      let b : 2 + j ≡ i = omega arith in
      rw (a, b) at (past_mark j ∙ get_or-append (drop 2 s) (output_bytes ws) 0 j (omega (arith, rest_long, whole)) ∙ get_or-drop 2 s j 0)

  -- byte i of output record k
  byte_made : (k i : ℕ) → k < outputs s → i < 4 → get_or t (8 + 7 * gates s + 4 * k + i) 0 ≡ get_or (0x43 ∷ 0x4F ∷ two (get_or ws k 0)) i 0
  byte_made k i h l =
      let j : ℕ = length (drop 2 s) + (4 * k + i) in
      let at : suc (suc j) ≡ 8 + 7 * gates s + 4 * k + i = omega (arith, rest_long) in
      rw at at (past_mark j ∙ get_or-append-add (drop 2 s) (output_bytes ws) (4 * k + i) 0 ∙ output_byte ws k i (rw as_many h) l)

  -- ---- so are the header's numbers and the gates
  two_kept : (i : ℕ) → 2 ≤ i → i + 1 < length s → be16 t i ≡ be16 s i
  unfolding be16
  two_kept i h l = rw (byte_kept i h (omega arith), byte_kept (i + 1) (omega arith) l)

  inputs_kept : inputs t ≡ inputs s
  unfolding inputs
  inputs_kept = two_kept 2 (omega arith) (omega (arith, whole))

  outputs_kept : outputs t ≡ outputs s
  unfolding outputs
  outputs_kept = two_kept 4 (omega arith) (omega (arith, whole))

  gates_kept : gates t ≡ gates s
  unfolding gates
  gates_kept = two_kept 6 (omega arith) (omega (arith, whole))

  gate_kept : (k : ℕ) → k < gates s → gate_at t k ≡ gate_at s k
  unfolding gate_at
  gate_kept k h =
      rw (
        two_kept (record_at k + 2) (omega arith) (omega (arith, whole)),
        two_kept (record_at k + 4) (omega arith) (omega (arith, whole)),
        byte_kept (record_at k + 6) (omega arith) (omega (arith, whole)),
      )

  by_name : named t ≡ true
  unfolding named named_of mark_at
  by_name = refl

  -- ---- and output k is the wire that it was made from
  wire_is : (k : ℕ) → k < outputs s → get_or ws k 0 ≡ inputs s + gates s - outputs s + 1 + k
  unfolding last_wires
  wire_is k h = entry 0 (outputs s) _ k h

  output_made : (k : ℕ) → k < outputs s → output_at t k ≡ inputs s + gates s - outputs s + 1 + k
  unfolding output_at be16
  output_made k h =
      let high : 8 + 7 * gates s + 4 * k + 2 + 1 ≡ 8 + 7 * gates s + 4 * k + 3 = omega arith in
      rw (gates_kept, high, byte_made k 2 h (omega arith), byte_made k 3 h (omega arith), wire_is k h)
      (two_back (inputs s + gates s - outputs s + 1 + k) (omega (arith, sizes.m_high, sizes.sum)))

  mark_made : (k : ℕ) → k < outputs s → mark_at t (output_record_at t k) 0x43 0x4F ≡ true
  unfolding mark_at
  mark_made k h =
      let at : 8 + 7 * gates s + 4 * k ≡ 8 + 7 * gates s + 4 * k + 0 = omega arith in
      rw (gates_kept, rw (← at) at (byte_made k 0 h (omega arith)), byte_made k 1 h (omega arith))

  -- ---- the same circuit
  circuit_same : circuit_of t ≡ circuit_of s
  unfolding circuit_of last_wires
  circuit_same =
      rw (
        by_name,
        mark,
        inputs_kept,
        outputs_kept,
        gates_kept,
        from_cong 0 (gates s) (gate_at t) (gate_at s) (λ k h. gate_kept k (omega arith)),
        from_cong 0 (outputs s) (output_at t) (λ i. inputs s + gates s - outputs s + 1 + i) (λ k h. output_made k (omega arith)),
      )

  -- ---- accepted
  length_made : length t ≡ 8 + 7 * gates s + 4 * outputs s
  unfolding named_of
  length_made = simp length-append (omega (arith, rest_long, outputs_long ws, as_many))

  head_fine : head_verdict t ≡ fine
  unfolding head_verdict circuit_length refuse ◌then◌
  head_fine =
      let long = length_made in
      rw (
        le-ltb (length t) 8 (omega (arith, long)),
        by_name,
        or_true (mark_at t 0 0x43 0x48),
        inputs_kept,
        outputs_kept,
        gates_kept,
        sizes_by_name (inputs s) (outputs s) (gates s) sizes,
        eq-eqb (length t) (8 + 7 * gates s + 4 * outputs s) long,
      )

  gate_fine : (k : ℕ) → k < gates s → record_verdict t (inputs s) k ≡ fine
  unfolding record_verdict circuit_verdict mark_at
  gate_fine k h =
      rw (
        byte_kept (record_at k) (omega arith) (omega (arith, whole)),
        byte_kept (record_at k + 1) (omega arith) (omega (arith, whole)),
        gate_kept k h,
      ) (first_each (record_verdict s (inputs s)) (gates s) k (then_fine _ _ (then_fine _ _ accepted).0).1 h)

  output_fine : (k : ℕ) → k < outputs s → output_verdict t k ≡ fine
  unfolding output_verdict refuse ◌then◌
  output_fine k h =
      rw (
        mark_made k h,
        output_made k h,
        inputs_kept,
        gates_kept,
        le-leb 1 (inputs s + gates s - outputs s + 1 + k) (omega arith),
        le-leb (inputs s + gates s - outputs s + 1 + k) (inputs s + gates s) (omega (arith, sizes.m_high)),
      )

  still_accepted : circuit_verdict t ≡ fine
  unfolding circuit_verdict outputs_verdict ◌then◌
  still_accepted =
      rw (
        head_fine,
        inputs_kept,
        gates_kept,
        outputs_kept,
        by_name,
        first_all (record_verdict t (inputs s)) (gates s) gate_fine,
        first_all (output_verdict t) (outputs s) output_fine,
      )

  sizes_same : sizes_of t ≡ sizes_of s
  unfolding sizes_of
  sizes_same = rw (inputs_kept, outputs_kept, gates_kept, circuit_same)

  alike : Alike s t
  alike = record {
    same_verdict = still_accepted ∙ sym accepted;
    same_circuit = circuit_same;
    same_n = inputs_kept;
    same_m = outputs_kept;
    same_q = gates_kept;
  }

  pub stands_for : StandsFor s
  stands_for =
      let back = turned s t alike in
      record {
        by_name = by_name;
        accepted = still_accepted;
        same_circuit = circuit_same;
        same_sizes_kept = sizes_same;
        plain = λ v o r x. (plain_too s t alike v o r x, plain_too t s back v o r x);
        garble = λ seed want m z o r m' z' o'. (garble_too s t alike seed want m z o r m' z' o', garble_too t s back seed want m z o r m' z' o');
        encode = λ v zs os o r x. (encode_too s t alike v zs os o r x, encode_too t s back v zs os o r x);
        evaluate = λ ts f o r x. (evaluate_too s t alike ts f o r x, evaluate_too t s back ts f o r x);
        output_tokens_kept = λ ws o r x. (output_tokens_too s t alike ws o r x, output_tokens_too t s back ws o r x);
        decode = λ ts f o r x. (decode_too s t alike ts f o r x, decode_too t s back ts f o r x);
      }
