use borrow.Author.Rules.{rules}
use Rattle.aes.proofs.Tables.{shifted_word}
use Rattle.aes.proofs.packed.shifted_word.Goals as goal

pub returns : goal.returns
returns c = shifted_word _ c.args.tables.now.is_t_tables _ _ _ _ (search rules)
