use borrow.Author.Rules.{rules}
use Rattle.planes.proofs.Turns.{rotates, all_moved}
use Rattle.planes.proofs.rotations.rotate.Goals as goal

pub returns : goal.returns
returns c = search (all_moved, rotates, rules)
