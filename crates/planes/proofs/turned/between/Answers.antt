use borrow.Author.Rules.{rules}
use Rattle.planes.proofs.TurnedKeys.{stands_between}
use Rattle.planes.proofs.turned.between.Goals as goal

pub returns : goal.returns
returns c = stands_between _ _ _ (search rules) (search rules) c.joined.ensures
