use borrow.Author.Rules.{rules}
use Rattle.aes.specs.Tables.{state_of}
use Rattle.aes.proofs.Columns.{loaded}
use Rattle.aes.proofs.packed.WordsFromBlock.from.Goals as goal

pub returns : goal.returns
unfolding state_of
returns c = loaded _ _ _ _ _ (search rules) c.pack-a.ensures c.pack-b.ensures c.pack-c.ensures c.pack-d.ensures
