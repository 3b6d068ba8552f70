use Rattle.planes.specs.Rotations.{either}
use Rattle.planes.proofs.Turns.{either_lt}
use Rattle.planes.proofs.Mixes.{mixes_from}
use Rattle.planes.proofs.planes.Planes.mix_across.Goals as goal

pub returns : goal.returns
returns c = mixes_from (either 0x00FF00FF00FF00FF 40 24) (either_lt 0x00FF00FF00FF00FF 40 24) _ _ _ _ _ c.xor-sum.ensures c.rotate_either.ensures c.mix_byte.ensures
