-- A whole garbling: what it starts from, and what it leaves.
use Rattle.std.specs.Prelude.{ℕ, ◌+◌, ◌*◌, ◌≤◌, ◌≡◌, List, length, replicate}
use Rattle.model.specs.declared.Garbled.{Garbled}
use Rattle.model.specs.declared.Sizes.{Sizes}
use Rattle.model.specs.declared.Wanted.{Wanted}
use Rattle.model.specs.Bytes.{over}
use Rattle.model.specs.Circuit.{circuit_of, inputs, gates}
use Rattle.model.specs.Tokens.{garbling_of, input_zeros}
use Rattle.model.specs.Garbling.{Known, zero_tokens, input_ones}
use Rattle.model.specs.Material.{join_blocks, material}
use Rattle.model.specs.Calls.{garble_calls, output_calls}
use Rattle.model.specs.Refusals.{clash_verdict}
use Rattle.model.specs.Operations.{Answer, answer, file_length, garble_made, wiped}
use Rattle.circuit.specs.Accepted.{Accepted}

-- nothing refuses
pub record WholeStart (c seed : List ℕ) (want : Wanted) (s : Sizes) (m z o : List ℕ) : Type 0 where
  pub sized : Accepted c s
  pub seed_length : length seed ≡ 16
  pub known : Known want.scheme
  pub file_room : file_length c want ≤ length m
  pub wires_room : 16 * (inputs c + gates c) ≤ length z
  pub inputs_room : 16 * inputs c ≤ length o

pub record WholeIs (c seed : List ℕ) (want : Wanted) (m z o m' z' o' : List ℕ) (calls : ℕ) : Type 0 where
  pub material_left : m' ≡ over (material (garbling_of c seed want)) m
  pub zeros_left : z' ≡ over (join_blocks (zero_tokens (garbling_of c seed want))) z
  pub ones_left : o' ≡ over (join_blocks (input_ones (garbling_of c seed want))) o
  pub calls_made : calls ≡ garble_calls (garbling_of c seed want) (circuit_of c).gates (input_zeros (garbling_of c seed want)) + output_calls (garbling_of c seed want)

-- room for the zeros that are to go over it
pub record WipeStart (s : Sizes) (l : ℕ) (m z o : List ℕ) : Type 0 where
  pub few : s.n + s.q ≤ 65535
  pub file_room : l ≤ length m
  pub wires_room : 16 * (s.n + s.q) ≤ length z
  pub inputs_room : 16 * s.n ≤ length o

pub record WipedTo (s : Sizes) (l : ℕ) (m z o m' z' o' : List ℕ) : Type 0 where
  pub material_left : m' ≡ over (replicate l 0) m
  pub zeros_left : z' ≡ over (replicate (16 * (s.n + s.q)) 0) z
  pub ones_left : o' ≡ over (replicate (16 * s.n) 0) o

-- its outcome, by whether an output's two hashes are equal: 30, and zeros where the bytes were written (02, job 12)
pub record OutcomeIs (c seed : List ℕ) (want : Wanted) (m z o : List ℕ) (r : Answer Garbled) (m' z' o' : List ℕ) : Type 0 where
  pub answered : r ≡ answer (clash_verdict (garbling_of c seed want)) (garble_made c seed want)
  pub material_left : m' ≡ over (wiped (clash_verdict (garbling_of c seed want)) (material (garbling_of c seed want))) m
  pub zeros_left : z' ≡ over (wiped (clash_verdict (garbling_of c seed want)) (join_blocks (zero_tokens (garbling_of c seed want)))) z
  pub ones_left : o' ≡ over (wiped (clash_verdict (garbling_of c seed want)) (join_blocks (input_ones (garbling_of c seed want)))) o
