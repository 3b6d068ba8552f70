use borrow.Author.Rules.{rules}
use Rattle.aes.proofs.Packing.{packed}
use Rattle.aes.proofs.packed.pack.Goals as goal

pub returns : goal.returns
returns c = packed _ _ (search rules) (search rules) c.from_le_bytes.ensures
