use mathlib.Core.Path.{refl}
use Rattle.planes.specs.Lanes.{planes_of}
use Rattle.planes.proofs.Mixes.{adds}
use Rattle.planes.proofs.planes.Planes.xor.Goals as goal

pub returns : goal.returns
unfolding planes_of
returns c = adds _ _ _ refl
