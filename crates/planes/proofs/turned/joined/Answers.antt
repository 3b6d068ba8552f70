use native.Mathlib.Omega.{arith}
use borrow.Author.Rules.{rules}
use Rattle.planes.proofs.TurnedKeys.{joins_two}
use Rattle.planes.proofs.turned.joined.Goals as goal

pub returns : goal.returns
returns c = joins_two _ _ _ (search rules) (search rules) (omega arith)
