use Rattle.circuit.proofs.ValueLaws.{Gathering}
use Rattle.circuit.proofs.values.beyond_bits.Given as goal

abbrev pub invariant-loop-value : goal.invariant-loop-value
invariant-loop-value l = Gathering l.values l.all l.value-index
