-- Garble's own material is well-formed for its circuit: none of 12 to 18 refuses it. Assumes nothing.
use Prim.Native.Nat.{ℕ, suc, ◌+◌, ◌*◌, ◌/◌, ◌%◌, ◌≤◌, ◌<◌}
use native.Mathlib.Omega.{arith}
use mathlib.Core.Path.{◌≡◌, refl, sym, ap, ◌∙◌}
use mathlib.Core.List.{List, [], ◌∷◌, ◌++◌, append_assoc}
use mathlib.Core.Bool.{Bool, true, false, not, ◌&&◌, ◌||◌}
use borrow.Author.Tests.{le-ltb, le-leb, eq-eqb}
use lib.Dec.{eqb}
use lib.ListN.{length, get_or, take, drop, length-append}
use lib.Seq.{split_at, get_or-append_seam, get_or-append-add, length-take-le, take-length}
use Rattle.model.specs.declared.Gate.{Gate}
use Rattle.model.specs.Bytes.{be16, two}
use Rattle.model.specs.Circuit.{Kind, charged, free, refused, kind_of, charges, code_at, mark_at, gate_wire, wires}
use Rattle.model.specs.Aes.{Block}
use Rattle.model.specs.Tokens.{Garbling, input_zeros}
use Rattle.model.specs.Garbling.{Known, site_of, zero_step}
use Rattle.model.specs.Ending.{colours, hashes, ending_of}
use Rattle.model.specs.Material.{last_start, material_length, last_bytes, header, record_of, records, stored_of, last_record, material}
use Rattle.model.specs.Refusals.{fine, refuse, ◌then◌, is_charged, scheme_verdict, circuit_sizes, same_sizes, row_start, file_verdict, row_record_at, row_verdict, stored_verdict, last_verdict, material_verdict, made_for}
use Rattle.model.proofs.Verdicts.{first_all}
use Rattle.model.proofs.Circuits.{wires_length}
use Rattle.model.proofs.Blocks.{blocks_length}
use Rattle.model.proofs.Endings.{right}
use Rattle.model.proofs.Lengths.{input_zeros_blocks, header_length, records_length, material_length_law, hashed_is}
use Rattle.model.proofs.Stored.{stored_after}

-- ---- bytes read back

pub two_back : (x : ℕ) → x ≤ 65535 → x / 256 % 256 * 256 + x % 256 ≡ x
two_back x h = omega arith

-- a row record with this wire number, after some bytes
record_there : (p q : List ℕ) (x : ℕ) → x ≤ 65535 → row_record_at (p ++ (0x47 ∷ 0x54 ∷ two x ++ q)) (length p) x ≡ true
unfolding row_record_at mark_at be16
record_there p q x h =
    let s : List ℕ = 0x47 ∷ 0x54 ∷ two x ++ q in
    let g0 : get_or (p ++ s) (length p) 0 ≡ 0x47 = get_or-append_seam p 0x47 _ 0 in
    let g1 : get_or (p ++ s) (length p + 1) 0 ≡ 0x54 = get_or-append-add p s 1 0 in
    let g2 : get_or (p ++ s) (length p + 2) 0 ≡ x / 256 % 256 = get_or-append-add p s 2 0 in
    let g3 : get_or (p ++ s) (length p + 3) 0 ≡ x % 256 = get_or-append-add p s 3 0 in
    let i : length p + 2 + 1 ≡ length p + 3 = omega arith in
    rw (i, g0, g1, g2, g3, two_back x h, eq-eqb x x refl)

-- ---- the records of some gates, and then of more
records_append : (γ : Garbling) (hs ks : List Gate) (xs : List Block)
    → records γ (hs ++ ks) xs ≡ records γ hs xs ++ records γ ks (wires (zero_step γ) hs xs)
unfolding records wires
records_append γ [] ks xs = refl
records_append γ (h ∷ hs) ks xs = rw (records_append γ hs ks (xs ++ (zero_step γ xs h ∷ [])), append_assoc)

module _ (γ : Garbling) (known : Known γ.scheme) (few : γ.circuit.n + length γ.circuit.gates ≤ 65535)
    (few_outputs : length γ.circuit.outputs ≤ 65535) where
  abbrev gs : List Gate
  gs = γ.circuit.gates

  abbrev s : List ℕ
  s = material γ

  scheme_byte : get_or s 2 0 ≡ γ.scheme
  unfolding material header
  scheme_byte = refl

  -- ---- 12 to 16

  own_mark : (mark_at s 0 0x47 0x48 || γ.hashed) ≡ true
  unfolding material header mark_at ending_of colours hashes
  own_mark = go γ.hashed
    where
      go : (b : Bool) → ((eqb 0x47 0x47 && eqb (ending_of b).header_mark 0x48) || b) ≡ true
      go true = refl
      go false = refl

  own_n : be16 s 3 ≡ γ.circuit.n
  unfolding material header be16
  own_n = two_back γ.circuit.n (omega (arith, few))

  own_m : be16 s 5 ≡ length γ.circuit.outputs
  unfolding material header be16
  own_m = two_back (length γ.circuit.outputs) few_outputs

  own_q : be16 s 7 ≡ length gs
  unfolding material header be16
  own_q = two_back (length gs) (omega (arith, few))

  whole : length s ≡ material_length γ.scheme (last_bytes γ.hashed (length γ.circuit.outputs)) (charges gs)
  whole = material_length_law γ

  long : 9 ≤ length s
  unfolding material_length
  long = omega (arith, whole)

  file_fine : file_verdict (circuit_sizes γ.circuit) s ≡ fine
  unfolding file_verdict circuit_sizes same_sizes scheme_verdict refuse ◌then◌
  file_fine =
      simp (
        le-ltb _ _ long,
        hashed_is γ,
        own_mark,
        scheme_byte,
        le-leb _ _ known.low,
        le-leb _ _ known.high,
        own_n,
        own_m,
        own_q,
        eq-eqb γ.circuit.n _ refl,
        eq-eqb (length γ.circuit.outputs) _ refl,
        eq-eqb (length gs) _ refl,
        eq-eqb _ _ whole,
      )

  -- ---- 17

  -- the material up to gate k
  front : ℕ → List ℕ
  front k = header γ ++ records γ (take k gs) (input_zeros γ)

  front_long : (k : ℕ) → row_start γ.circuit s k ≡ length (front k)
  unfolding front row_start last_start
  front_long k = rw scheme_byte (simp (length-append, header_length γ, records_length γ) (omega arith))

  -- the zero tokens of the wires before gate k, and that gate
  before : ℕ → List Block
  before k = wires (zero_step γ) (take k gs) (input_zeros γ)

  gate : ℕ → Gate
  gate k = get_or gs k (record { a = record { 0 = 0 }; b = record { 0 = 0 }; code = 0 })

  before_many : (k : ℕ) → k < length gs → length (before k) ≡ γ.circuit.n + k
  unfolding before
  before_many k h =
      wires_length (zero_step γ) (take k gs) (input_zeros γ)
      ∙ rw (blocks_length (input_zeros_blocks γ), length-take-le k gs (omega arith))

  -- the material from gate k on
  cut_at_gate : (k : ℕ) → k < length gs → (rest : List ℕ) × (s ≡ front k ++ (record_of γ (kind_of (gate k).code) (site_of γ (before k) (gate k)) ++ rest))
  unfolding material front before gate records
  cut_at_gate k h =
      let recs =
      ap (λ (x : List Gate). records γ x (input_zeros γ)) (split_at gs k (record { a = record { 0 = 0 }; b = record { 0 = 0 }; code = 0 }) h)
      ∙ records_append γ (take k gs) (gate k ∷ drop (suc k) gs) (input_zeros γ) in
      (records γ (drop (suc k) gs) (before k ++ (zero_step γ (before k) (gate k) ∷ [])) ++ last_record γ, rw recs (simp append_assoc))

  row_there : (k : ℕ) → k < length gs → (u v x : ℕ) → kind_of (gate k).code ≡ charged u v x
      → row_record_at s (row_start γ.circuit s k) (gate_wire γ.circuit.n k) ≡ true
  unfolding record_of site_of
  row_there k h u v x e =
      let r = cut_at_gate k h in
      let is_s = rw e at r.1 in
      let own : suc (length (before k)) ≡ gate_wire γ.circuit.n k = omega (arith, before_many k h) in
      rw (front_long k, is_s, ← own) (record_there (front k) _ (suc (length (before k))) (omega (arith, own, few)))

  row_fine : (k : ℕ) → k < length gs → row_verdict γ.circuit s k ≡ fine
  unfolding row_verdict code_at gate refuse
  row_fine k h = go (kind_of (gate k).code) refl
    where
      go : (κ : Kind) → kind_of (gate k).code ≡ κ
          → refuse (is_charged κ && not (row_record_at s (row_start γ.circuit s k) (gate_wire γ.circuit.n k))) 17 (gate_wire γ.circuit.n k) ≡ fine
      go (charged u v x) e = rw (row_there k h u v x e)
      go (free p q c) e = refl
      go refused e = refl

  -- ---- 18

  last_at : s ≡ front (length gs) ++ last_record γ
  unfolding material front
  last_at = rw take-length

  -- it starts past the records of all gates
  last_long : last_start (get_or s 2 0) (charges gs) ≡ length (front (length gs))
  unfolding row_start
  last_long = rw take-length at (front_long (length gs))

  mark_there : (p q : List ℕ) (y : ℕ) → mark_at (p ++ (0x47 ∷ y ∷ q)) (length p) 0x47 y ≡ true
  unfolding mark_at
  mark_there p q y =
      let g0 : get_or (p ++ (0x47 ∷ y ∷ q)) (length p) 0 ≡ 0x47 = get_or-append_seam p 0x47 _ 0 in
      let g1 : get_or (p ++ (0x47 ∷ y ∷ q)) (length p + 1) 0 ≡ y = get_or-append-add p (0x47 ∷ y ∷ q) 1 0 in
      rw (g0, g1, eq-eqb y y refl)

  last_mark_law : mark_at s (last_start (get_or s 2 0) (charges gs)) 0x47 (ending_of γ.hashed).last_mark ≡ true
  unfolding last_record
  last_mark_law = rw (last_long, last_at) (mark_there (front (length gs)) _ _)

  -- what comes before the outputs' bytes
  head : List ℕ
  head = front (length gs) ++ (0x47 ∷ (ending_of γ.hashed).last_mark ∷ [])

  stored_there : (i : ℕ) → i < length γ.circuit.outputs → stored_verdict (ending_of γ.hashed) s (last_start (get_or s 2 0) (charges gs)) i ≡ fine
  unfolding stored_verdict last_record head refuse made_for
  stored_there i h =
      let long : length (front (length gs)) + 2 ≡ length head = sym (length-append (front (length gs)) (0x47 ∷ (ending_of γ.hashed).last_mark ∷ [])) in
      let is_s : s ≡ head ++ stored_of γ (ending_of γ.hashed) 1 γ.circuit.outputs = last_at ∙ sym (append_assoc (front (length gs)) (0x47 ∷ (ending_of γ.hashed).last_mark ∷ []) _) in
      rw (last_long, long, is_s, stored_after γ head i h, (right γ.hashed).lets (i + 1) _ _)

  last_fine : last_verdict s (last_start (get_or s 2 0) (charges gs)) (length γ.circuit.outputs) ≡ fine
  unfolding last_verdict refuse ◌then◌
  last_fine = rw (hashed_is γ, last_mark_law) (first_all _ (length γ.circuit.outputs) stored_there)

  -- ---- all of them
  pub own_material : material_verdict γ.circuit s ≡ fine
  unfolding material_verdict ◌then◌
  own_material = rw (file_fine, first_all (row_verdict γ.circuit s) (length gs) row_fine, last_fine)
