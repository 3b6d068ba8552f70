use Rattle.circuit.proofs.ValueLaws.{Evaluating}
use Rattle.circuit.proofs.values.plain_gates.Given as goal

abbrev pub invariant-loop-k : goal.invariant-loop-k
invariant-loop-k l = Evaluating l.circuit l.initial.wires l.n l.q l.k l.wires
