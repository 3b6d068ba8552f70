-- The walk over the gates of a circuit c, with the material s: what it starts from, and what one gate leaves. Document 01, "Operations".
use Rattle.std.specs.Prelude.{ℕ, ◌+◌, ◌*◌, ◌≤◌, ◌<◌, ◌≡◌, false, List, length, get_or, drop}
use Rattle.model.specs.declared.Gate.{Gate}
use Rattle.model.specs.Bytes.{tabulate, over, put}
use Rattle.model.specs.Circuit.{circuit_of, inputs, outputs, gates, gate_at, gate_wire, kind_of, charge, charges}
use Rattle.model.specs.Aes.{Block}
use Rattle.model.specs.Scheme.{Scheme, record_length}
use Rattle.model.specs.Garbling.{Known, scheme_of}
use Rattle.model.specs.Material.{join_blocks, hashed, last_start, last_bytes, material_length}
use Rattle.model.specs.Evaluation.{cut, open_at, open_gates, evaluate, evaluate_bytes, token_at}
use Rattle.model.specs.Calls.{evaluate_calls_at, evaluate_calls}
use Rattle.model.specs.Operations.{evaluate_calls_of}
use Rattle.model.specs.Refusals.{fine, is_refused, circuit_verdict}

-- gate g is the next, k gates after n inputs, its operands stand before it and its code is not refused; d is the buffer of the tokens
pub record Operands (n k : ℕ) (g : Gate) (d : List ℕ) : Type 0 where
  pub few : n + k < 65535
  pub a_low : 1 ≤ g.a.0
  pub order : g.a.0 < g.b.0
  pub b_high : g.b.0 < gate_wire n k
  pub known : is_refused (kind_of g.code) ≡ false
  pub token_room : 16 * (n + k) + 16 ≤ length d

-- room for the record of a gate of this code at an index of the material s, where it is charged; a free gate has none
pub record GateRoom (scheme code at : ℕ) (s : List ℕ) : Type 0 where
  pub known : Known scheme
  pub room : at + charge (kind_of code) * record_length (scheme_of scheme) ≤ length s

-- and its record is at an index of the material s if it is charged
pub record TokenStart (scheme n k : ℕ) (g : Gate) (s : List ℕ) (at : ℕ) (d : List ℕ) : Type 0 where
  pub operands : Operands n k g d
  pub record_room : GateRoom scheme g.code at s

-- its token, made from those of its operands in the buffer, which is d at entry and d' at exit, and the encryptions made
pub record TokenIs (scheme n k : ℕ) (g : Gate) (s : List ℕ) (at : ℕ) (d : List ℕ) (next calls : ℕ) (d' : List ℕ) : Type 0 where
  pub token_left : d' ≡ put d (16 * (n + k)) (open_at (scheme_of scheme) (kind_of g.code) (gate_wire n k) (drop at s) (token_at d g.a.0) (token_at d g.b.0))
  pub is_next : next ≡ at + charge (kind_of g.code) * record_length (scheme_of scheme)
  pub calls_made : calls ≡ evaluate_calls_at scheme (kind_of g.code) (gate_wire n k) (token_at d g.a.0) (token_at d g.b.0)

-- that of a free gate, by every scheme and over every material: the next record is still at its index, and π was not called
pub record FreeTokenIs (n k : ℕ) (g : Gate) (d d' : List ℕ) : Type 0 where
  pub left : (scheme : ℕ) (s : List ℕ) (at : ℕ) → TokenIs scheme n k g s at d at 0 d'

-- its token, and the calls made for it added to those so far
pub record OpenedTo (scheme n k : ℕ) (g : Gate) (s : List ℕ) (at calls : ℕ) (d : List ℕ) (next calls' : ℕ) (d' : List ℕ) : Type 0 where
  pub made : ℕ
  pub token : TokenIs scheme n k g s at d next made d'
  pub added : calls' ≡ calls + made

-- an accepted circuit of n inputs and q gates, material as long as the circuit asks, and room for a token of every wire
pub record WalkStart (c s : List ℕ) (n q : ℕ) (o : List ℕ) : Type 0 where
  pub accepted : circuit_verdict c ≡ fine
  pub is_n : n ≡ inputs c
  pub is_q : q ≡ gates c
  pub known : Known (get_or s 2 0)
  pub whole : length s ≡ material_length (get_or s 2 0) (last_bytes (hashed s) (outputs c)) (charges (circuit_of c).gates)
  pub room : 16 * (n + q) ≤ length o

-- the same before the tokens ts of the inputs are copied to the buffer
pub record WiresStart (c ts s : List ℕ) (n q : ℕ) (o : List ℕ) : Type 0 where
  pub tokens : length ts ≡ 16 * n
  pub walk : WalkStart c s n q o

-- ---- on the way

-- the scheme of the material
abbrev pub S : List ℕ → Scheme
S s = scheme_of (get_or s 2 0)

-- the tokens after k gates, from those of the inputs
unfoldable pub tokens_to : List ℕ → List ℕ → List Block → ℕ → List Block
tokens_to c s ts k = open_gates (S s) (tabulate k (gate_at c)) (drop 9 s) ts

-- d is the buffer after k gates of q and so many encryptions, and o at the start, whose first n blocks are the inputs' tokens
pub record Walking (c s : List ℕ) (n q : ℕ) (o : List ℕ) (k at calls : ℕ) (d : List ℕ) : Type 0 where
  pub within : k ≤ q
  pub same_length : length d ≡ length o
  pub is_at : at ≡ last_start (get_or s 2 0) (charges (tabulate k (gate_at c)))
  pub so_far : d ≡ over (join_blocks (tokens_to c s (cut n o) k)) o
  pub counted : calls ≡ evaluate_calls (get_or s 2 0) (tabulate k (gate_at c)) (drop 9 s) (cut n o)

-- the same after all gates
pub record WalkedIs (c s : List ℕ) (n : ℕ) (o : List ℕ) (calls : ℕ) (d : List ℕ) : Type 0 where
  pub left : d ≡ over (join_blocks (evaluate (circuit_of c) (cut n o) s)) o
  pub calls_made : calls ≡ evaluate_calls (get_or s 2 0) (circuit_of c).gates (drop 9 s) (cut n o)

-- and from the tokens ts of the inputs
pub record WiresAre (c ts s o : List ℕ) (calls : ℕ) (d : List ℕ) : Type 0 where
  pub left : d ≡ over (evaluate_bytes (circuit_of c) ts s) o
  pub calls_made : calls ≡ evaluate_calls_of c ts s
