use borrow.Author.Rules.{rules}
use Rattle.model.proofs.Mix.{shifted}
use Rattle.aes.proofs.steps.times_x.Goals as goal

pub returns : goal.returns
returns c = shifted c.args.b (search rules)
