use borrow.Author.Rules.{rules}
use Rattle.block.proofs.DifferLaws.{differ_is}
use Rattle.block.proofs.Block.differs.Goals as goal

pub returns : goal.returns
returns c = differ_is _ (search rules) (search rules) _ _ (search rules) (search rules) _ _ c.from.ensures c.from-2.ensures c.xor-d.ensures
