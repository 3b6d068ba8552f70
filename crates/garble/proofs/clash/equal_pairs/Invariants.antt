use Rattle.model.specs.Ending.{hashes}
use Rattle.model.proofs.Verdicts.{Together}
use Rattle.garble.specs.Clash.{pair_verdict}
use Rattle.garble.proofs.clash.equal_pairs.Given as goal

abbrev pub invariant-loop-i : goal.invariant-loop-i
invariant-loop-i l = Together (pair_verdict hashes l.material l.at) l.m l.all l.i
