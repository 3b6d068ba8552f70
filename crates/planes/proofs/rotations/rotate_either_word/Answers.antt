use borrow.Author.Rules.{rules}
use Rattle.planes.proofs.Turns.{merges}
use Rattle.planes.proofs.rotations.rotate_either_word.Goals as goal

pub returns : goal.returns
returns c = merges _ _ _ _ _ _ (search rules) c.rotate_right.ensures c.rotate_right-2.ensures
