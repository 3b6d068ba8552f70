use Rattle.evaluate.specs.Walk.{Walking}
use Rattle.evaluate.proofs.walk.write_tokens.Given as goal

abbrev pub invariant-loop-k : goal.invariant-loop-k
invariant-loop-k l = Walking l.circuit l.material l.n l.q l.initial.wires l.k l.s.here.at l.s.calls l.wires
