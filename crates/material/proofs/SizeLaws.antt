-- The circuit that bytes are. Assumes nothing.
use Prim.Native.Nat.{ℕ, ◌<◌}
use mathlib.Core.Path.{◌≡◌, refl, ap}
use mathlib.Core.List.{List}
use lib.ListN.{length}
use Rattle.model.specs.declared.Gate.{Gate}
use Rattle.model.specs.Circuit.{circuit_of, inputs, gates, gate_at, code_at}
use Rattle.model.proofs.Lists.{tabulate_length, entry}

-- ---- as many inputs and gates as the header says, and gate k at k
module _ (c : List ℕ) where
  pub inputs_same : (circuit_of c).n ≡ inputs c
  unfolding circuit_of
  inputs_same = refl

  pub gates_many : length (circuit_of c).gates ≡ gates c
  unfolding circuit_of
  gates_many = tabulate_length (gates c) (gate_at c)

  pub code_at_law : (k : ℕ) → k < gates c → code_at (circuit_of c) k ≡ (gate_at c k).code
  unfolding circuit_of code_at
  code_at_law k h = ap (λ (g : Gate). g.code) (entry _ (gates c) (gate_at c) k h)
