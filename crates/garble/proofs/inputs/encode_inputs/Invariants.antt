use Rattle.garble.proofs.EncodeLaws.{Encoding}
use Rattle.garble.proofs.inputs.encode_inputs.Given as goal

abbrev pub invariant-loop-i : goal.invariant-loop-i
invariant-loop-i l = Encoding l.n l.values l.zeros l.ones l.initial.tokens l.i l.tokens
