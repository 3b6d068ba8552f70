use Rattle.aes.specs.Tables.{word_of, state_of}
use Rattle.aes.proofs.Joined.{joined}
use Rattle.aes.proofs.packed.BlockFromWords.from.Goals as goal

pub returns : goal.returns
unfolding word_of state_of
returns c = joined c.split-a.ensures c.split-b.ensures c.split-c.ensures c.split-d.ensures
