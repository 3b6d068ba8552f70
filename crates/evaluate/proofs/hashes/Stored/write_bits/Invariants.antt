use Rattle.model.specs.Ending.{hashes}
use Rattle.evaluate.proofs.LastLaws.{Telling}
use Rattle.evaluate.proofs.hashes.Stored.write_bits.Given as goal

abbrev pub invariant-loop-i : goal.invariant-loop-i
invariant-loop-i l = Telling hashes l.self.tokens.now l.self.material.now l.self.first l.self.m l.initial.bits l.i l.bits
