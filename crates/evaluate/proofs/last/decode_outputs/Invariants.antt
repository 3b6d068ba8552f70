use Rattle.evaluate.proofs.LastLaws.{Decoding}
use Rattle.evaluate.proofs.last.decode_outputs.Given as goal

abbrev pub invariant-loop-i : goal.invariant-loop-i
invariant-loop-i l = Decoding l.m l.tokens l.material l.initial.bits l.i l.bits
