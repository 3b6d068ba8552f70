use mathlib.Core.Path.{refl}
use Rattle.planes.proofs.Swaps.{swaps_turned}
use Rattle.planes.proofs.exchange.swap_turned.Goals as goal

pub returns : goal.returns
returns c = swaps_turned _ _ _ refl refl
