use borrow.Author.Rules.{rules}
use Rattle.block.specs.Halves.{block_of}
use Rattle.block.proofs.Words.{joined}
use Rattle.block.proofs.halves.HalvesFromBlock.from.Goals as goal

pub returns : goal.returns
unfolding block_of
returns c = joined _ _ _ (search rules) (search rules) c.from_be_bytes-high.ensures c.from_be_bytes-low.ensures
