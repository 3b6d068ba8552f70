use Rattle.circuit.proofs.ValueLaws.{Checking}
use Rattle.circuit.proofs.values.search_values.Given as goal

abbrev pub invariant-loop-i : goal.invariant-loop-i
invariant-loop-i l = Checking l.values l.i
