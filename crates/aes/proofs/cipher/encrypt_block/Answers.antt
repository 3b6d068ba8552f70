use borrow.Author.Rules.{rules}
use Rattle.aes.proofs.Rounds.{by_key}
use Rattle.aes.proofs.cipher.encrypt_block.Goals as goal

pub returns : goal.returns
returns c = by_key _ c.encrypt.ensures (search rules) c.expand_key-w.ensures
