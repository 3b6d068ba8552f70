use Rattle.planes.proofs.TurnedKeys.{turns_once}
use Rattle.planes.proofs.turned.turned_once.Goals as goal

pub returns : goal.returns
returns c = turns_once _ _ _ _ _ _ c.between.ensures c.between-2.ensures c.swap_rows-x.ensures.0 c.swap_rows-y.ensures.0 c.swap_rows.ensures.0
    c.swap_rows.ensures.1
