use Rattle.planes.proofs.Turns.{all_moved}
use Rattle.planes.proofs.rotations.rotate_either.Goals as goal

pub returns : goal.returns
returns c = search all_moved
