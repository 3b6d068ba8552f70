use mathlib.Core.Path.{ap, ◌∙◌}
use borrow.Author.Rules.{rules}
use Rattle.aes.specs.Tables.{word_of}
use Rattle.aes.proofs.NextKeys.{rotates}
use Rattle.aes.proofs.rekeyed.rotated.Goals as goal

pub returns : goal.returns
returns c = ap word_of c.rotate_right.ensures ∙ rotates _ (search rules)
