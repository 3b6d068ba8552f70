use Rattle.garble.proofs.InputLaws.{Inputs}
use Rattle.garble.proofs.plan.Plan.garble_inputs.Given as goal

abbrev pub invariant-loop-i : goal.invariant-loop-i
invariant-loop-i l = Inputs l.self l.initial.zeros l.initial.ones l.held l.i l.zeros l.ones
