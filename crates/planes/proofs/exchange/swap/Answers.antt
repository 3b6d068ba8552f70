use mathlib.Core.Path.{refl}
use Rattle.planes.proofs.Swaps.{swaps}
use Rattle.planes.proofs.exchange.swap.Goals as goal

pub returns : goal.returns
returns c = swaps c.args.by.alternates _ _ _ refl refl
