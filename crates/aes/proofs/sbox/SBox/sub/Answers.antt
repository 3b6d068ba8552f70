use borrow.Author.Rules.{rules}
use Rattle.aes.proofs.sbox.SBox.sub.Goals as goal

pub returns : goal.returns
returns c = c.args.self.now.is_s_box c.args.b (search rules)
