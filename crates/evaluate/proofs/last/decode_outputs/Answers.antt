use borrow.Author.Rules.{rules}
use Rattle.evaluate.proofs.LastLaws.{decode_turn}
use Rattle.evaluate.proofs.last.decode_outputs.Goals as goal

pub loop-i-preserved : goal.loop-i-preserved
loop-i-preserved c = decode_turn _ _ _ _ c.requires _ _ c.loop-i.invariant (search rules) _ _ _
    c.load-x.ensures c.colour.ensures c.decoded.ensures
