-- What is known where the outputs' tokens are gathered.
use Rattle.std.specs.Prelude.{ℕ, ◌+◌, ◌*◌, ◌≤◌, ◌≡◌, List, length}
use Rattle.model.specs.declared.Sizes.{Sizes}
use Rattle.model.specs.Circuit.{inputs, outputs, gates}
use Rattle.circuit.specs.Accepted.{Accepted}

-- an accepted circuit of sizes z, a token in w for each of its wires, and room in o for one of each output
pub record GatherStart (c : List ℕ) (z : Sizes) (w o : List ℕ) : Type 0 where
  pub sized : Accepted c z
  pub all_wires : length w ≡ 16 * (inputs c + gates c)
  pub room : 16 * outputs c ≤ length o
