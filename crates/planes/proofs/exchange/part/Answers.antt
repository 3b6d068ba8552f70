use mathlib.Core.Path.{refl}
use Prim.Native.Nat.{◌+◌, ◌*◌, ◌/◌, ◌%◌}
use Rattle.planes.specs.Lanes.{planes_of}
use Rattle.planes.proofs.Swaps.{reorders}
use Rattle.planes.proofs.exchange.part.Goals as goal

pub returns : goal.returns
unfolding planes_of
returns c = reorders (λ w. w % 4 * 2 + w / 4) _ _ refl
