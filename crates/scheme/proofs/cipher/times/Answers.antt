use mathlib.Core.Path.{ap₂, ◌∙◌}
use borrow.Author.Rules.{rules}
use Rattle.model.specs.Aes.{times}
use Rattle.block.specs.Halves.{block_of}
use Rattle.scheme.proofs.BitLaws.{masked}
use Rattle.scheme.proofs.cipher.times.Goals as goal

pub returns : goal.returns
unfolding block_of
returns g c = c.from.ensures ∙ masked _ _ _ c.bit.ensures.1 (search rules) (search rules) ∙ ap₂ times c.bit.ensures.0 c.from-x.ensures
