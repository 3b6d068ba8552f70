use mathlib.Core.Path.{refl}
use Prim.Native.Nat.{◌+◌, ◌*◌, ◌/◌, ◌%◌}
use Rattle.planes.specs.Lanes.{planes_of}
use Rattle.planes.proofs.Swaps.{reorders}
use Rattle.planes.proofs.exchange.interleave.Goals as goal

pub returns : goal.returns
unfolding planes_of
returns c = reorders (λ w. w % 2 * 4 + w / 2) _ _ refl
