use Rattle.planes.proofs.Gates.{substitutes}
use Rattle.planes.proofs.planes.Planes.sub_bytes.Goals as goal

pub returns : goal.returns
returns c = substitutes _ _ c.sub_gates.ensures
