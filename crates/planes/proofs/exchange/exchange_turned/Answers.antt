use mathlib.Core.Path.{refl}
use Rattle.planes.specs.Lanes.{planes_of}
use Rattle.planes.proofs.Swaps.{exchanges_turned}
use Rattle.planes.proofs.exchange.exchange_turned.Goals as goal

pub returns : goal.returns
unfolding planes_of
returns c = let p = c.by_pairs.ensures in exchanges_turned _ _ _ _ _ _ p.first p.second p.third p.fourth refl
