use Rattle.planes.proofs.TurnedKeys.{state_halves}
use Rattle.planes.proofs.turned.HalvesFromWords.from.Goals as goal

pub returns : goal.returns
returns c = state_halves _ _ c.joined.ensures c.joined-2.ensures
