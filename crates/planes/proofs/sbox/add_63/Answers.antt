use mathlib.Core.Path.{refl}
use Rattle.planes.specs.Lanes.{planes_of}
use Rattle.planes.proofs.Gates.{negates}
use Rattle.planes.proofs.sbox.add_63.Goals as goal

pub returns : goal.returns
unfolding planes_of
returns c = negates _ _ refl
