use Rattle.planes.proofs.Halves.{first_swapped, second_swapped}
use Rattle.planes.proofs.turned.swap_rows.Goals as goal

pub returns : goal.returns
returns c = (first_swapped _ _ _ c.requires, second_swapped _ _ _ c.requires)
