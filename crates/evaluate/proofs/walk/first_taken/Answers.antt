use Rattle.evaluate.proofs.WalkLaws.{first_a, first_b}
use Rattle.evaluate.proofs.walk.first_taken.Goals as goal

pub returns-then-takes-eq1 : goal.returns-then-takes-eq1
returns-then-takes-eq1 c = search first_a

pub returns-else-takes-eq1 : goal.returns-else-takes-eq1
returns-else-takes-eq1 c = search first_b
