use Rattle.std.proofs.Common.{◌≤◌, ◌+◌, length}
use Rattle.cases.proofs.line.agreements.Given as goal

abbrev pub invariant-loop-rest : goal.invariant-loop-rest
invariant-loop-rest g l = (l.cases + length l.rest ≤ length l.text) × (l.agreed ≤ l.cases)

abbrev pub decreases-loop-rest : goal.decreases-loop-rest
decreases-loop-rest g l = length l.rest
