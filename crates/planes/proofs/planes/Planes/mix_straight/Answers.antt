use Rattle.planes.specs.Rotations.{around}
use Rattle.planes.proofs.Turns.{around_lt}
use Rattle.planes.proofs.Mixes.{mixes_from}
use Rattle.planes.proofs.planes.Planes.mix_straight.Goals as goal

pub returns : goal.returns
returns c = mixes_from (around 32) (around_lt 32) _ _ _ _ _ c.xor-sum.ensures c.rotate.ensures c.mix_byte.ensures
