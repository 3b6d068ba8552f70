use Rattle.circuit.proofs.SearchLaws.{Searching}
use Rattle.circuit.proofs.gates.search_gates.Given as goal

abbrev pub invariant-loop-k : goal.invariant-loop-k
invariant-loop-k l = Searching l.circuit l.n l.q l.k l.p
