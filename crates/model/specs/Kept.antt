-- What document 02 says of what was there before, a part for each job that says so. The theorems are in proofs/Kept.antt.
use Rattle.std.specs.Prelude.{ℕ, ◌+◌, ◌*◌, ◌-◌, ◌≤◌, ◌<◌, ◌≡◌, ◌↔◌, Bool, true, false, not, cond, ◌&&◌, ◌||◌, List, [], ◌∷◌, ◌++◌, map, eqb, leb, ltb, length, get_or, take, drop}
use Rattle.std.specs.Int.Bits.{differ}
use Rattle.model.specs.declared.Garbled.{Garbled}
use Rattle.model.specs.declared.Gate.{Gate}
use Rattle.model.specs.declared.Sizes.{Sizes}
use Rattle.model.specs.declared.Wanted.{Wanted}
use Rattle.model.specs.Bytes.{tabulate, two}
use Rattle.model.specs.Circuit.{Circuit, Kind, charged, free, refused, circuit_of, kind_of, charge, charges, code_at, mark_at, inputs, outputs, gates, named, record_at, gate_at, last_wires, operands_hold, gate_wire, wire, wires, plain_values}
use Rattle.model.specs.Aes.{Block, ◌⊕◌, block, times, aes, π, double}
use Rattle.model.specs.Tokens.{Garbling, garbling_of, colour, decoded, coloured, seed_block, offset, input_zeros, free_zero}
use Rattle.model.specs.Scheme.{Site, Scheme}
use Rattle.model.specs.Gax.{dual_key, gax}
use Rattle.model.specs.Gaxr.{gaxr}
use Rattle.model.specs.Hashes.{hash_of}
use Rattle.model.specs.HalfGates.{alpha, beta, gamma, generator_tweak, evaluator_tweak, joined, half}
use Rattle.model.specs.Garbling.{own, scheme_of, zero_step, zero_tokens, input_ones}
use Rattle.model.specs.Material.{join_blocks, last_start, material_length, hashed, material}
use Rattle.model.specs.Evaluation.{cut, open_at, open_step, past, open_gates, evaluate, decode, output_tokens}
use Rattle.model.specs.Calls.{garble_calls}
use Rattle.model.specs.Refusals.{Verdict, fine, refuse, ◌then◌, first_of, is_refused, is_charged, circuit_verdict, seed_verdict, scheme_verdict, circuit_sizes, same_sizes, file_verdict, row_record_at, row_verdict, last_verdict, material_verdict, room_verdict, unknown_verdict, clash_verdict}
use Rattle.model.specs.Operations.{Answer, made, sizes_of, garble_verdict, garble_made, PlainIs, GarbleIs, EncodeIs, EvaluateIs, OutputTokensIs, DecodeIs}

-- ==== Job 2, gates that use one operand

-- ---- "Refusal 7 is left for 0, 15 and codes above 15."

abbrev pub LeftRefused : Type 0
LeftRefused = (code : ℕ) → is_refused (kind_of code) ≡ (eqb code 0 || leb 15 code)

-- ---- "12 and 10 pass on the token of a and of b, 3 and 5 the same with the zero token ⊕ R"

-- the zero token of a gate g that comes after the wires of zero tokens xs
pub record ZeroPassedOn (γ : Garbling) (xs : List Block) (g : Gate) : Type 0 where
  pub code_12 : g.code ≡ 12 → zero_step γ xs g ≡ wire (block 0) xs g.a.0
  pub code_10 : g.code ≡ 10 → zero_step γ xs g ≡ wire (block 0) xs g.b.0
  pub code_3 : g.code ≡ 3 → zero_step γ xs g ≡ wire (block 0) xs g.a.0 ⊕ offset γ
  pub code_5 : g.code ≡ 5 → zero_step γ xs g ≡ wire (block 0) xs g.b.0 ⊕ offset γ

-- its token, where the tokens ts are held on the wires before it: R is the garbler's alone; bs is what is left of the material
pub record TokenPassedOn (S : Scheme) (bs : List ℕ) (ts : List Block) (g : Gate) : Type 0 where
  pub code_12 : g.code ≡ 12 → open_step S bs ts g ≡ wire (block 0) ts g.a.0
  pub code_10 : g.code ≡ 10 → open_step S bs ts g ≡ wire (block 0) ts g.b.0
  pub code_3 : g.code ≡ 3 → open_step S bs ts g ≡ wire (block 0) ts g.a.0
  pub code_5 : g.code ≡ 5 → open_step S bs ts g ≡ wire (block 0) ts g.b.0

-- at gate k, from 0, of an accepted circuit c, for every garbling of it, and for any tokens ts of its inputs over any material s
pub record PassedOn (c : List ℕ) : Type 0 where
  pub zeros : (γ : Garbling) → γ.circuit ≡ circuit_of c → (k : ℕ) → k < gates c
      → ZeroPassedOn γ (wires (zero_step γ) (tabulate k (gate_at c)) (input_zeros γ)) (gate_at c k)
  pub tokens : (ts s : List ℕ) → length ts ≡ 16 * inputs c → (k : ℕ) → k < gates c → (bs : List ℕ)
      → TokenPassedOn (scheme_of (get_or s 2 0)) bs (open_gates (scheme_of (get_or s 2 0)) (tabulate k (gate_at c)) (drop 9 s) (cut (inputs c) ts)) (gate_at c k)

-- ---- "Circuits accepted before get the bytes they got"

-- 01's own table, "Circuit": "Codes 1, 2, 4, 7, 8, 11, 13, 14 are charged gates; 6 (XOR) and 9 (XNOR) are free; every other code is refused."
unfoldable pub kinds01 : List Kind
kinds01 =
    refused ∷ charged 0 0 1 ∷ charged 0 1 1 ∷ refused
    ∷ charged 1 0 1 ∷ refused ∷ free 1 1 0 ∷ charged 1 1 0
    ∷ charged 1 1 1 ∷ free 1 1 1 ∷ refused ∷ charged 1 0 0
    ∷ refused ∷ charged 0 1 0 ∷ charged 0 0 0 ∷ refused ∷ []

unfoldable pub kind01 : ℕ → Kind
kind01 code = get_or kinds01 code refused

-- the value that a kind says a gate has
unfoldable pub kind_value : Kind → ℕ → ℕ → ℕ
kind_value (charged u v x) a b = cond (eqb a u && eqb b v) x (1 - x)
kind_value (free p q c) a b = differ (differ (p * a) (q * b)) c
kind_value refused a b = 0

-- 01's own 1 to 4, "Turned down, by number": of mark 43 48 alone, with "m from 1 to q" and "Its length is 8+7q."
unfoldable pub sizes_hold01 : ℕ → ℕ → ℕ → Bool
sizes_hold01 n m q = leb 2 n && leb n 4096 && leb 1 m && leb m q && leb 1 q && leb (n + q) 65535

unfoldable pub head_verdict01 : List ℕ → Verdict
head_verdict01 s =
    refuse (ltb (length s) 8) 1 (length s)
    then refuse (not (mark_at s 0 0x43 0x48)) 2 0
    then refuse (not (sizes_hold01 (inputs s) (outputs s) (gates s))) 3 2
    then refuse (not (eqb (length s) (8 + 7 * gates s))) 4 (length s)

-- What a rule B for the blocks under the seed gives: the definitions that ask for such a block, each as it stands in the file named, with
-- B i in the place of seed_block γ i.
module _ (B : ℕ → Block) where
  -- Tokens
  unfoldable pub offset_by : Block
  offset_by = coloured (B 0)

  unfoldable pub input_zeros_by : Garbling → List Block
  input_zeros_by γ = tabulate γ.circuit.n (λ i. B (i + 1))

  unfoldable pub input_ones_by : Garbling → List Block
  input_ones_by γ = map (λ x. x ⊕ offset_by) (input_zeros_by γ)

  -- Garbling
  unfoldable pub site_by : List Block → Gate → Site
  site_by xs g = record {
    R = offset_by;
    fresh = B (own xs);
    g = own xs;
    code = g.code;
    Xa = wire (block 0) xs g.a.0;
    Xb = wire (block 0) xs g.b.0;
  }

-- What a table K gives, with such a rule: the definitions that ask for a code's kind, with K in the place of kind_of.
module _ (K : ℕ → Kind) where
  -- Circuit: p, and the values
  unfoldable pub charges_by : List Gate → ℕ
  charges_by [] = 0
  charges_by (g ∷ gs) = charge (K g.code) + charges_by gs

  unfoldable pub gate_value_by : List ℕ → Gate → ℕ
  gate_value_by vs g = kind_value (K g.code) (wire 0 vs g.a.0) (wire 0 vs g.b.0)

  -- Refusals: 1 to 7
  unfoldable pub gate_verdict_by : ℕ → Gate → Verdict
  gate_verdict_by own g =
      refuse (not (operands_hold own g)) 6 own
      then refuse (is_refused (K g.code)) 7 own

  unfoldable pub record_verdict_by : List ℕ → ℕ → ℕ → Verdict
  record_verdict_by s n k =
      refuse (not (mark_at s (record_at k) 0x43 0x47)) 5 (gate_wire n k)
      then gate_verdict_by (gate_wire n k) (gate_at s k)

  unfoldable pub circuit_verdict_by : List ℕ → Verdict
  circuit_verdict_by s = head_verdict01 s then first_of (record_verdict_by s (inputs s)) (gates s)

  -- Refusals: 12 to 18
  unfoldable pub row_verdict_by : Circuit → List ℕ → ℕ → Verdict
  row_verdict_by c s k =
      refuse (is_charged (K (code_at c k)) && not (row_record_at s (last_start (get_or s 2 0) (charges_by (take k c.gates))) (gate_wire c.n k))) 17 (gate_wire c.n k)

  unfoldable pub material_verdict_by : Circuit → List ℕ → Verdict
  material_verdict_by c s =
      file_verdict (record { n = c.n; m = length c.outputs; q = length c.gates; p = charges_by c.gates }) s
      then first_of (row_verdict_by c s) (length c.gates)
      then last_verdict s (last_start (get_or s 2 0) (charges_by c.gates)) (length c.outputs)

  -- HalfGates: α, β and γ
  unfoldable pub half_a_by : Site → Block
  half_a_by s = s.Xa ⊕ times (alpha (K s.code)) s.R

  unfoldable pub half_b_by : Site → Block
  half_b_by s = s.Xb ⊕ times (beta (K s.code)) s.R

  module _ (H : Block → ℕ → Block) where
    unfoldable pub row_g_by : Site → Block
    row_g_by s = H (half_a_by s) (generator_tweak s.g) ⊕ H (half_a_by s ⊕ s.R) (generator_tweak s.g) ⊕ times (colour (half_b_by s)) s.R

    unfoldable pub row_e_by : Site → Block
    row_e_by s = H (half_b_by s) (evaluator_tweak s.g) ⊕ H (half_b_by s ⊕ s.R) (evaluator_tweak s.g) ⊕ half_a_by s

    unfoldable pub half_by : Scheme
    half_by = record {
      stored = 2;
      zero_token = λ s. joined H s.g (row_g_by s) (row_e_by s) (half_a_by s) (half_b_by s) ⊕ times (gamma (K s.code)) s.R;
      rows = λ s. row_g_by s ∷ row_e_by s ∷ [];
      opened = λ g rows. joined H g (get_or rows 0 (block 0)) (get_or rows 1 (block 0));
    }

  -- Garbling
  unfoldable pub scheme_by : ℕ → Scheme
  scheme_by k = cond (eqb k 1) (gax dual_key) (cond (eqb k 2) (gaxr dual_key) (half_by (hash_of k)))

  unfoldable pub zero_at_by : Garbling → Kind → Site → Block
  zero_at_by γ (charged u v x) s = (scheme_by γ.scheme).zero_token s
  zero_at_by γ (free p q c) s = free_zero p q c s.R s.Xa s.Xb
  zero_at_by γ refused s = block 0

  -- Material
  unfoldable pub record_of_by : Garbling → Kind → Site → List ℕ
  record_of_by γ (charged u v x) s = 0x47 ∷ 0x54 ∷ two s.g ++ join_blocks ((scheme_by γ.scheme).rows s)
  record_of_by γ (free p q c) s = []
  record_of_by γ refused s = []

  -- both, over all gates
  module _ (B : ℕ → Block) (γ : Garbling) where
    unfoldable pub zero_step_by : List Block → Gate → Block
    zero_step_by xs g = zero_at_by γ (K g.code) (site_by B xs g)

    unfoldable pub zero_tokens_by : List Block
    zero_tokens_by = wires zero_step_by γ.circuit.gates (input_zeros_by B γ)

    unfoldable pub records_by : List Gate → List Block → List ℕ
    records_by [] xs = []
    records_by (g ∷ gs) xs = record_of_by γ (K g.code) (site_by B xs g) ++ records_by gs (xs ++ (zero_step_by xs g ∷ []))

    -- "Header of 9 bytes: mark 47 48 .."
    unfoldable pub header_by : List ℕ
    header_by = 0x47 ∷ 0x48 ∷ γ.scheme ∷ two γ.circuit.n ++ two (length γ.circuit.outputs) ++ two (length γ.circuit.gates)

    -- "Last: mark 47 44 and m bytes, each the colour (0 or 1) of an output's zero token."
    unfoldable pub last_record_by : List ℕ
    last_record_by = 0x47 ∷ 0x44 ∷ map (λ w. colour (wire (block 0) zero_tokens_by w)) γ.circuit.outputs

    unfoldable pub material_by : List ℕ
    material_by = header_by ++ records_by γ.circuit.gates (input_zeros_by B γ) ++ last_record_by

  -- Evaluation
  module _ (S : Scheme) where
    unfoldable pub open_step_by : List ℕ → List Block → Gate → Block
    open_step_by bs ts g = open_at S (K g.code) (own ts) bs (wire (block 0) ts g.a.0) (wire (block 0) ts g.b.0)

    unfoldable pub open_gates_by : List Gate → List ℕ → List Block → List Block
    open_gates_by [] bs ts = ts
    open_gates_by (g ∷ gs) bs ts = open_gates_by gs (past S (K g.code) bs) (ts ++ (open_step_by bs ts g ∷ []))

  unfoldable pub evaluate_by : Circuit → List Block → List ℕ → List Block
  evaluate_by c ts s = open_gates_by (scheme_by (get_or s 2 0)) c.gates (drop 9 s) ts

-- A circuit c that 01 accepts, `circuit_verdict_by kind01 c ≡ fine`, is accepted, and gets what 01's table gives: p, and with it every length and
-- every count of calls; the value of each wire; the zero tokens and the material of every garbling of it; what refuses any material, and the tokens
-- evaluated over it.
pub record SameBytes (c : List ℕ) : Type 0 where
  pub accepted : circuit_verdict c ≡ fine
  pub as_many : charges (circuit_of c).gates ≡ charges_by kind01 (circuit_of c).gates
  pub values : (vs : List ℕ) → ((i : ℕ) → get_or vs i 0 ≤ 1) → plain_values (circuit_of c) vs ≡ wires (gate_value_by kind01) (circuit_of c).gates vs
  pub zeros : (γ : Garbling) → γ.circuit ≡ circuit_of c → zero_tokens γ ≡ zero_tokens_by kind01 (seed_block γ) γ
  pub rows : (γ : Garbling) → γ.circuit ≡ circuit_of c → γ.hashed ≡ false → material γ ≡ material_by kind01 (seed_block γ) γ
  pub refusals : (s : List ℕ) → material_verdict (circuit_of c) s ≡ material_verdict_by kind01 (circuit_of c) s
  pub tokens : (ts : List Block) (s : List ℕ) → evaluate (circuit_of c) ts s ≡ evaluate_by kind01 (circuit_of c) ts s

-- ==== Job 4, two comparisons under one seed

-- ---- "Run 0 gives today's bytes."

-- 01's own rule, "Tokens": "AES under the seed of block i"
unfoldable pub seed_block01 : Garbling → ℕ → Block
seed_block01 γ i = aes γ.seed (block i)

-- A garbling γ of run 0 gets, of an accepted circuit, what that rule gives, where K is the table of today, kind_of; and of a circuit that 01
-- accepts, what 01 gives, where K is kind01: the zero tokens, the inputs' one tokens and the material.
pub record RunZero (K : ℕ → Kind) (γ : Garbling) : Type 0 where
  pub zeros : zero_tokens γ ≡ zero_tokens_by K (seed_block01 γ) γ
  pub ones : input_ones γ ≡ input_ones_by (seed_block01 γ) γ
  pub rows : γ.hashed ≡ false → material γ ≡ material_by K (seed_block01 γ) γ

-- ==== Job 7, the newer half-gates hash

-- ---- "others stay with the old hash": 01's own words of H, of the scheme of a scheme byte, and of 14

-- "H(x,i) = π(2x ⊕ i) ⊕ 2x ⊕ i"
unfoldable pub hash01 : Block → ℕ → Block
hash01 x i = π (double x ⊕ block i) ⊕ double x ⊕ block i

unfoldable pub scheme01 : ℕ → Scheme
scheme01 k = cond (eqb k 1) (gax dual_key) (cond (eqb k 2) (gaxr dual_key) (half hash01))

-- "The scheme is not 1, 2 or 3 (the scheme)."
unfoldable pub scheme_verdict01 : ℕ → Verdict
scheme_verdict01 scheme = refuse (not (leb 1 scheme && leb scheme 3)) 14 scheme

-- By every scheme byte but 4 the steps are those of 01, all definitions above that name a scheme go by them, and 14 refuses what it refused.
pub record OldSchemes : Type 0 where
  pub steps : (k : ℕ) → (k ≡ 4 → ⊥) → scheme_of k ≡ scheme01 k
  pub refused_too : (k : ℕ) → (k ≡ 4 → ⊥) → scheme_verdict k ≡ scheme_verdict01 k

-- ==== Job 8, outputs by name

-- ---- A circuit of another mark than 43 49 is refused as by 01's header, with the table of kinds of today, and is the circuit that it was: its outputs
-- are "The last m wires". Every answer and every byte of an operation go by these two. If it is accepted, the tokens that decode gets are the last of all
-- wires' tokens ws.
pub record OldMark (s : List ℕ) : Type 0 where
  pub refusals : circuit_verdict s ≡ circuit_verdict_by kind_of s
  pub circuit : circuit_of s ≡ record { n = inputs s; gates = tabulate (gates s) (gate_at s); outputs = last_wires (inputs s) (gates s) (outputs s) }
  pub last_tokens : circuit_verdict s ≡ fine → (ws : List ℕ) → length ws ≡ 16 * (inputs s + gates s)
      → output_tokens (circuit_of s) ws ≡ drop (16 * (inputs s + gates s - outputs s)) ws

-- ---- "43 48 circuits stand for the list of their last m wires"

-- the output records of wires
unfoldable pub output_bytes : List ℕ → List ℕ
output_bytes [] = []
output_bytes (w ∷ ws) = 0x43 ∷ 0x4F ∷ two w ++ output_bytes ws

-- the circuit of mark 43 49 that is made from one of mark 43 48: the same bytes, and its last m wires by name
unfoldable pub named_of : List ℕ → List ℕ
named_of s = 0x43 ∷ 0x49 ∷ drop 2 s ++ output_bytes (last_wires (inputs s) (gates s) (outputs s))

-- An accepted circuit s of mark 43 48 and the one made from it are the same circuit of the same sizes, both accepted. Every operation answers and leaves
-- the same of both.
pub record StandsFor (s : List ℕ) : Type 0 where
  pub by_name : named (named_of s) ≡ true
  pub accepted : circuit_verdict (named_of s) ≡ fine
  pub same_circuit : circuit_of (named_of s) ≡ circuit_of s
  pub same_sizes_kept : sizes_of (named_of s) ≡ sizes_of s
  pub plain : (v o : List ℕ) (r : Verdict) (x : List ℕ) → PlainIs s v o r x ↔ PlainIs (named_of s) v o r x
  pub garble : (seed : List ℕ) (want : Wanted) (m z o : List ℕ) (r : Answer Garbled) (m' z' o' : List ℕ)
      → GarbleIs s seed want m z o r m' z' o' ↔ GarbleIs (named_of s) seed want m z o r m' z' o'
  pub encode : (v zs os o : List ℕ) (r : Verdict) (x : List ℕ) → EncodeIs s v zs os o r x ↔ EncodeIs (named_of s) v zs os o r x
  pub evaluate : (ts f o : List ℕ) (r : Answer ℕ) (x : List ℕ) → EvaluateIs s ts f o r x ↔ EvaluateIs (named_of s) ts f o r x
  pub output_tokens_kept : (ws o : List ℕ) (r : Verdict) (x : List ℕ) → OutputTokensIs s ws o r x ↔ OutputTokensIs (named_of s) ws o r x
  pub decode : (ts f o : List ℕ) (r : Verdict) (x : List ℕ) → DecodeIs s ts f o r x ↔ DecodeIs (named_of s) ts f o r x

-- ==== Job 12, decoding that knows its tokens

-- ---- 01's own words, of the mark 47 48 alone

-- 12 to 16: "Length 11+m+p(4+16r)"
unfoldable pub file_verdict01 : Sizes → List ℕ → Verdict
file_verdict01 z s =
    refuse (ltb (length s) 9) 12 (length s)
    then refuse (not (mark_at s 0 0x47 0x48)) 13 0
    then scheme_verdict (get_or s 2 0)
    then refuse (not (same_sizes z s)) 15 3
    then refuse (not (eqb (length s) (material_length (get_or s 2 0) z.m z.p))) 16 (length s)

-- 18: "The last record's mark is wrong or a byte of it exceeds 1 (its start)."
unfoldable pub last_byte01 : List ℕ → ℕ → ℕ → Verdict
last_byte01 s start i = refuse (ltb 1 (get_or s (start + 2 + i) 0)) 18 start

unfoldable pub last_verdict01 : List ℕ → ℕ → ℕ → Verdict
last_verdict01 s start m =
    refuse (not (mark_at s start 0x47 0x44)) 18 start
    then first_of (last_byte01 s start) m

unfoldable pub material_verdict01 : Circuit → List ℕ → Verdict
material_verdict01 c s =
    file_verdict01 (circuit_sizes c) s
    then first_of (row_verdict c s) (length c.gates)
    then last_verdict01 s (last_start (get_or s 2 0) (charges c.gates)) (length c.outputs)

-- decoding: "each the token's colour ⊕ the material's byte"
unfoldable pub decode_with01 : List Block → List ℕ → List ℕ
decode_with01 [] ds = []
decode_with01 (t ∷ ts) ds = decoded (colour t) (get_or ds 0 0) ∷ decode_with01 ts (drop 1 ds)

unfoldable pub decode01 : Circuit → List Block → List ℕ → List ℕ
decode01 c ts s = decode_with01 ts (drop (length s - length c.outputs) s)

-- garble: 1 to 7, 25, 26, 8, 14, 19, and what it returns
unfoldable pub garble_verdict01 : List ℕ → List ℕ → Wanted → ℕ → ℕ → ℕ → Verdict
garble_verdict01 c seed want km kz ko =
    circuit_verdict c
    then seed_verdict seed
    then scheme_verdict want.scheme
    then room_verdict (material_length want.scheme (outputs c) (charges (circuit_of c).gates)) km
    then room_verdict (16 * (inputs c + gates c)) kz
    then room_verdict (16 * inputs c) ko

unfoldable pub garble_made01 : List ℕ → List ℕ → Wanted → Garbled
garble_made01 c seed want =
    made (material_length want.scheme (outputs c) (charges (circuit_of c).gates))
    (garble_calls (garbling_of c seed want) (circuit_of c).gates (input_zeros (garbling_of c seed want)))

-- ---- Garbling with the mark 47 48 refuses what it refused, and as before; 30 refuses nothing; the material and what garble returns are what they were.
-- A file of another mark than 47 4A is refused as before, and decodes as before where it is not, for as many tokens as there are outputs; 29 refuses
-- nothing. Every answer and every byte of an operation go by these.
pub record OldEnding : Type 0 where
  pub garble_refusals : (c seed : List ℕ) (want : Wanted) (km kz ko : ℕ) → want.mark ≡ 0x4748 → garble_verdict c seed want km kz ko ≡ garble_verdict01 c seed want km kz ko
  pub returned : (c seed : List ℕ) (want : Wanted) → want.mark ≡ 0x4748 → garble_made c seed want ≡ garble_made01 c seed want
  pub no_clash : (γ : Garbling) → γ.hashed ≡ false → clash_verdict γ ≡ fine
  pub rows : (γ : Garbling) → γ.hashed ≡ false → material γ ≡ material_by kind_of (seed_block γ) γ
  pub refusals : (c : Circuit) (s : List ℕ) → hashed s ≡ false → material_verdict c s ≡ material_verdict01 c s
  pub all_known : (c : Circuit) (ts : List Block) (s : List ℕ) → hashed s ≡ false → unknown_verdict c ts s ≡ fine
  pub bits : (c : Circuit) (ts : List Block) (s : List ℕ) → hashed s ≡ false → length ts ≡ length c.outputs → decode c ts s ≡ decode01 c ts s
