use Rattle.model.specs.Ending.{hashes}
use Rattle.model.proofs.Verdicts.{Searched}
use Rattle.evaluate.specs.Last.{known_verdict}
use Rattle.evaluate.proofs.hashes.Stored.search_unknown.Given as goal

abbrev pub invariant-loop-i : goal.invariant-loop-i
invariant-loop-i l = Searched (known_verdict hashes l.self.tokens.now l.self.material.now l.self.first) l.self.m l.i
