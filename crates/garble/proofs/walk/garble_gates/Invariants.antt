use Rattle.garble.proofs.WalkLaws.{Walking}
use Rattle.garble.proofs.walk.garble_gates.Given as goal

abbrev pub invariant-loop-k : goal.invariant-loop-k
invariant-loop-k l = Walking l.circuit l.plan.seed.key.bytes l.plan.wanted l.q l.initial.material l.initial.zeros l.held l.k l.at l.calls l.material l.zeros
