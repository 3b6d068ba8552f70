use Rattle.model.specs.Ending.{hashes}
use Rattle.model.proofs.Verdicts.{Together}
use Rattle.evaluate.specs.Last.{known_verdict}
use Rattle.evaluate.proofs.hashes.Stored.unknown_together.Given as goal

abbrev pub invariant-loop-i : goal.invariant-loop-i
invariant-loop-i l = Together (known_verdict hashes l.self.tokens.now l.self.material.now l.self.first) l.self.m l.all l.i
