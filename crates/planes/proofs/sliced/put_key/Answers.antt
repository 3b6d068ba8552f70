use native.Mathlib.Omega.{arith}
use borrow.Author.Rules.{rules}
use Rattle.planes.proofs.Keys.{first_put, later_put}
use Rattle.planes.proofs.sliced.put_key.Goals as goal

pub returns-then-r-eq0 : goal.returns-then-r-eq0
returns-then-r-eq0 c = first_put _ _ _ _ _ (search rules) (search rules) _ (search rules) c.key_planes-p.ensures c.put_planes.ensures

pub returns-else-r-eq0 : goal.returns-else-r-eq0
returns-else-r-eq0 c = later_put _ _ _ _ _ (search rules) (search rules) _ _ (λ e. omega arith) c.key_planes-p.ensures c.add_63.ensures c.put_planes-else-r-eq0.ensures
