use mathlib.Core.Path.{refl}
use Rattle.planes.specs.Lanes.{planes_of}
use Rattle.planes.proofs.Mixes.{mixes}
use Rattle.planes.proofs.planes.mix_byte.Goals as goal

pub returns : goal.returns
unfolding planes_of
returns c = mixes _ _ _ _ refl
