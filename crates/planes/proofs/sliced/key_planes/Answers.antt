use Rattle.planes.proofs.Keys.{pair_in}
use Rattle.planes.proofs.sliced.key_planes.Goals as goal

pub returns : goal.returns
returns c = pair_in _ _ _ _ _ _ c.turned-u.ensures c.turned-v.ensures c.spread_pairs.ensures
