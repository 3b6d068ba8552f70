use borrow.Author.Rules.{rules}
use Rattle.aes.proofs.NextKeys.{doubles}
use Rattle.aes.proofs.rekeyed.next_constant.Goals as goal

pub returns : goal.returns
returns c = doubles _ (search rules)
