use Rattle.evaluate.proofs.OutputLaws.{Gathering}
use Rattle.evaluate.proofs.outputs.gather_tokens.Given as goal

abbrev pub invariant-loop-i : goal.invariant-loop-i
invariant-loop-i l = Gathering l.circuit l.wires l.initial.tokens l.i l.tokens
