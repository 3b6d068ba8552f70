use borrow.Author.Rules.{rules}
use native.Mathlib.Omega.{arith}
use Rattle.planes.proofs.TurnedKeys.{turned_not, turned_yes}
use Rattle.planes.proofs.turned.turned_odd.Goals as goal

pub returns-then-r-eq0 : goal.returns-then-r-eq0
returns-then-r-eq0 c = turned_not _ _ (search rules)

pub returns : goal.returns
returns c = turned_yes _ _ _ (λ e. omega arith) c.turned_once.ensures
