use native.Mathlib.Omega.{arith}
use Rattle.planes.proofs.Keys.{stores}
use Rattle.planes.proofs.sliced.put_planes.Goals as goal

pub returns : goal.returns
returns c = stores _ _ _ (omega arith)
