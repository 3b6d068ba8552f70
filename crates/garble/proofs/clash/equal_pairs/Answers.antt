use borrow.Author.Rules.{rules}
use Rattle.garble.proofs.ClashLaws.{pair_together}
use Rattle.garble.proofs.clash.equal_pairs.Goals as goal

pub loop-i-preserved : goal.loop-i-preserved
loop-i-preserved c = pair_together _ _ _ _ c.equal_pair-all.ensures _ _ c.loop-i.invariant (search rules)
