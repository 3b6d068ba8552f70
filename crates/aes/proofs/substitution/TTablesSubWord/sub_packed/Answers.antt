use Rattle.aes.specs.Tables.{word_of}
use Rattle.aes.proofs.substitution.TTablesSubWord.sub_packed.Goals as goal

pub returns : goal.returns
unfolding word_of
returns c = c.shifted_word.ensures
