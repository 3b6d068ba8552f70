use Rattle.comparator.proofs.WriteLaws.{Writing}
use Rattle.comparator.proofs.write_bits.Given as goal

abbrev pub invariant-loop-k : goal.invariant-loop-k
invariant-loop-k l = Writing l.w l.initial.circuit l.k l.circuit
