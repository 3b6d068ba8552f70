-- The walk over the gates: what it starts from, and what one gate leaves in the buffers.
use Rattle.std.specs.Prelude.{ℕ, suc, ◌+◌, ◌*◌, ◌≤◌, ◌<◌, ◌≡◌, Bool, cond, List, [], ◌∷◌, ◌++◌, map, length, take}
use Rattle.model.specs.declared.Sizes.{Sizes}
use Rattle.model.specs.declared.Wanted.{Wanted}
use Rattle.model.specs.Bytes.{tabulate, over, put, two}
use Rattle.model.specs.Circuit.{charged, charge, charges, kind_of, circuit_of, inputs, outputs, gates, gate_at, gate_wire, wires}
use Rattle.model.specs.Aes.{Block, ◌⊕◌, aes}
use Rattle.model.specs.Tokens.{wants_hashes, garbling_of, coloured, run_block, input_zeros}
use Rattle.model.specs.Scheme.{Site, record_length}
use Rattle.model.specs.Garbling.{Known, scheme_of, site_of, zero_step, zero_tokens}
use Rattle.model.specs.Ending.{Ending, ending_of}
use Rattle.model.specs.Material.{join_blocks, last_start, last_bytes, material_length, header, record_of, records, material}
use Rattle.model.specs.Evaluation.{token_at}
use Rattle.model.specs.Calls.{garbled_calls, garble_calls_at, garble_calls, output_calls}
use Rattle.model.specs.Operations.{file_length}
use Rattle.model.specs.Refusals.{fine, circuit_verdict}
use Rattle.circuit.specs.Accepted.{Accepted}
use Rattle.garble.specs.Written.{InputsIs}
use Rattle.scheme.specs.declared.GarbledGate.{GarbledGate}
use Rattle.garble.specs.declared.plan.Plan.{Plan}
use Rattle.garble.specs.declared.gate.GateIn.{GateIn}

-- ---- the plan

-- p is made for a seed, for what is wanted of it, and for a circuit of n inputs
pub record PlanIs (seed : Block) (want : Wanted) (n : ℕ) (p : Plan) : Type 0 where
  pub is_wanted : p.wanted ≡ want
  pub is_seed : p.seed.key.bytes ≡ seed
  pub is_stored : p.stored ≡ (scheme_of want.scheme).stored
  pub is_stride : p.stride ≡ record_length (scheme_of want.scheme)
  pub is_n : p.n ≡ n
  pub is_offset : p.r.bytes ≡ coloured (aes seed (run_block want.run 0))

-- the garbling that the walk is of: an accepted circuit, and the plan for it
pub record WalkOf (c seed : List ℕ) (want : Wanted) (p : Plan) : Type 0 where
  pub accepted : circuit_verdict c ≡ fine
  pub known : Known want.scheme
  pub plan_is : PlanIs seed want (inputs c) p

-- ---- a charged gate

-- a charged gate's record: its head, and its first rows
unfoldable pub written_record : ℕ → ℕ → GarbledGate → List ℕ
written_record own stored g =
    0x47 ∷ 0x54 ∷ two own ++ join_blocks (take stored (map (λ b. b.bytes) g.rows))

-- room for what writes a record of so many rows, 4 at most
pub record WriterRoom (at stored : ℕ) (m : List ℕ) : Type 0 where
  pub high : stored ≤ 4
  pub room : at + 4 + 16 * stored ≤ length m

-- what garbling by a plan knows at a gate as it was read
unfoldable pub site_at : Plan → GateIn → Site
site_at p g = record {
  R = p.r.bytes;
  fresh = aes p.seed.key.bytes (run_block p.wanted.run g.own.0);
  g = g.own.0;
  code = g.code;
  Xa = g.xa.bytes;
  Xb = g.xb.bytes;
}

-- a charged gate, of the pair u, v with its own value x; room for its record and its zero token
pub record ChargedStart (scheme stored code u v x : ℕ) (m : List ℕ) (at : ℕ) (z : List ℕ) (slot : ℕ) : Type 0 where
  pub known : Known scheme
  pub is_stored : stored ≡ (scheme_of scheme).stored
  pub is_charged_kind : kind_of code ≡ charged u v x
  pub record_room : at + record_length (scheme_of scheme) ≤ length m
  pub slot_room : slot + 16 ≤ length z

-- what it leaves, and the encryptions made
pub record ChargedIs (scheme : ℕ) (s : Site) (m : List ℕ) (at : ℕ) (z : List ℕ) (slot : ℕ) (m' z' : List ℕ) (calls : ℕ) : Type 0 where
  pub zeros_left : z' ≡ put z slot ((scheme_of scheme).zero_token s)
  pub material_left : m' ≡ put m at (0x47 ∷ 0x54 ∷ two s.g ++ join_blocks ((scheme_of scheme).rows s))
  pub calls_made : calls ≡ length (garbled_calls scheme s)

-- ---- a gate

-- gate k of an accepted circuit of n inputs, and room for the tokens of all wires before it
pub record OperandsStart (c : List ℕ) (n k : ℕ) (z : List ℕ) : Type 0 where
  pub accepted : circuit_verdict c ≡ fine
  pub is_n : n ≡ inputs c
  pub more : k < gates c
  pub room : 16 * (inputs c + gates c) ≤ length z

-- it as it was read, with the tokens of its operands
pub record GateInIs (c : List ℕ) (n k : ℕ) (z : List ℕ) (g : GateIn) : Type 0 where
  pub is_code : g.code ≡ (gate_at c k).code
  pub is_own : g.own.0 ≡ gate_wire n k
  pub is_xa : g.xa.bytes ≡ token_at z (gate_at c k).a.0
  pub is_xb : g.xb.bytes ≡ token_at z (gate_at c k).b.0

-- the zero tokens after k gates
unfoldable pub zeros_to : List ℕ → List ℕ → Wanted → ℕ → List Block
zeros_to c seed want k = wires (zero_step (garbling_of c seed want)) (tabulate k (gate_at c)) (input_zeros (garbling_of c seed want))

-- gate k comes next, its record at `at`: m and z are the material and the zero tokens so far
pub record StepStart (c seed : List ℕ) (want : Wanted) (k at : ℕ) (m z : List ℕ) : Type 0 where
  pub more : k < gates c
  pub is_at : at ≡ last_start want.scheme (charges (tabulate k (gate_at c)))
  pub file_room : material_length want.scheme (outputs c) (charges (circuit_of c).gates) ≤ length m
  pub wires_room : 16 * (inputs c + gates c) ≤ length z
  pub so_far : take (16 * (inputs c + k)) z ≡ join_blocks (zeros_to c seed want k)

-- what gate k leaves: m' and z' at exit, the place of the next record, and the encryptions made
pub record StepIs (c seed : List ℕ) (want : Wanted) (k at : ℕ) (m z : List ℕ) (next calls : ℕ) (m' z' : List ℕ) : Type 0 where
  pub zeros_left : z' ≡ put z (16 * (inputs c + k)) (zero_step (garbling_of c seed want) (zeros_to c seed want k) (gate_at c k))
  pub material_left : m' ≡ put m at (record_of (garbling_of c seed want) (kind_of (gate_at c k).code) (site_of (garbling_of c seed want) (zeros_to c seed want k) (gate_at c k)))
  pub is_next : next ≡ at + charge (kind_of (gate_at c k).code) * record_length (scheme_of want.scheme)
  pub calls_made : calls ≡ garble_calls_at (garbling_of c seed want) (kind_of (gate_at c k).code) (site_of (garbling_of c seed want) (zeros_to c seed want k) (gate_at c k))

-- before the first gate: the header and the inputs' zero tokens stand at the front of m and z
pub record GatesStart (c seed : List ℕ) (want : Wanted) (q : ℕ) (m z : List ℕ) : Type 0 where
  pub is_q : q ≡ gates c
  pub file_room : material_length want.scheme (outputs c) (charges (circuit_of c).gates) ≤ length m
  pub wires_room : 16 * (inputs c + gates c) ≤ length z
  pub header_front : take 9 m ≡ header (garbling_of c seed want)
  pub inputs_front : take (16 * inputs c) z ≡ join_blocks (input_zeros (garbling_of c seed want))

-- after the last: the records follow the header, and the gates' zero tokens the inputs'
pub record GatesIs (c seed : List ℕ) (want : Wanted) (m z m' z' : List ℕ) (calls : ℕ) : Type 0 where
  pub zeros_left : z' ≡ over (join_blocks (zero_tokens (garbling_of c seed want))) z
  pub material_left : m' ≡ over (header (garbling_of c seed want) ++ records (garbling_of c seed want) (circuit_of c).gates (input_zeros (garbling_of c seed want))) m
  pub calls_made : calls ≡ garble_calls (garbling_of c seed want) (circuit_of c).gates (input_zeros (garbling_of c seed want))

-- ---- the last record

-- an accepted circuit of sizes s, the tokens z of all its wires, and room for a colour of each output
pub record ColoursStart (c : List ℕ) (s : Sizes) (z f : List ℕ) (at : ℕ) : Type 0 where
  pub sized : Accepted c s
  pub tokens : 16 * (inputs c + gates c) ≤ length z
  pub room : at + s.m ≤ length f

-- the same, and room for two hashes of each output
pub record HashesStart (c : List ℕ) (s : Sizes) (z f : List ℕ) (at : ℕ) : Type 0 where
  pub sized : Accepted c s
  pub tokens : 16 * (inputs c + gates c) ≤ length z
  pub room : at + 32 * s.m ≤ length f

-- what is stored of the outputs ws, from number k on, with their zero tokens in z, by the offset R
unfoldable pub stored_from : Ending → List ℕ → Block → ℕ → List ℕ → List ℕ
stored_from E z R k [] = []
stored_from E z R k (w ∷ ws) = E.stored k (token_at z w) (token_at z w ⊕ R) ++ stored_from E z R (suc k) ws

-- the last record, by whether it has hashes
unfoldable pub last_of : List ℕ → Block → List ℕ → Bool → List ℕ
last_of c R z by_hash = 0x47 ∷ (ending_of by_hash).last_mark ∷ stored_from (ending_of by_hash) z R 1 (circuit_of c).outputs

-- room for it, by the mark wanted
pub record LastStart (c : List ℕ) (want : Wanted) (s : Sizes) (z f : List ℕ) (at : ℕ) : Type 0 where
  pub sized : Accepted c s
  pub tokens : 16 * (inputs c + gates c) ≤ length z
  pub room : at + 2 + last_bytes (wants_hashes want) s.m ≤ length f

-- it as it was written, and the encryptions made
pub record LastIs (c : List ℕ) (want : Wanted) (R : Block) (z f : List ℕ) (at : ℕ) (f' : List ℕ) (calls : ℕ) : Type 0 where
  pub left : f' ≡ put f at (last_of c R z (wants_hashes want))
  pub calls_made : calls ≡ cond (wants_hashes want) (2 * outputs c) 0

-- ---- before the gates: the inputs and the header

pub record FrontStart (n : ℕ) (m z o : List ℕ) : Type 0 where
  pub header_room : 9 ≤ length m
  pub zeros_room : 16 * n ≤ length z
  pub ones_room : 16 * n ≤ length o

pub record FrontIs (p : Plan) (n outs q : ℕ) (m z o m' z' o' : List ℕ) : Type 0 where
  pub inputs_are : InputsIs p z o z' o'
  pub header_is : m' ≡ over (0x47 ∷ (ending_of (wants_hashes p.wanted)).header_mark ∷ p.wanted.scheme ∷ two n ++ two outs ++ two q) m

-- ---- the gates and the last record

pub record BodyStart (c seed : List ℕ) (want : Wanted) (s : Sizes) (m z : List ℕ) : Type 0 where
  pub sized : Accepted c s
  pub gates_start : GatesStart c seed want s.q m z
  pub file_room : file_length c want ≤ length m

pub record BodyIs (c seed : List ℕ) (want : Wanted) (m z m' z' : List ℕ) (calls : ℕ) : Type 0 where
  pub zeros_left : z' ≡ over (join_blocks (zero_tokens (garbling_of c seed want))) z
  pub material_left : m' ≡ over (material (garbling_of c seed want)) m
  pub calls_made : calls ≡ garble_calls (garbling_of c seed want) (circuit_of c).gates (input_zeros (garbling_of c seed want)) + output_calls (garbling_of c seed want)
