use mathlib.Core.Path.{ap, ◌∙◌}
use Rattle.aes.specs.Tables.{state_of}
use Rattle.aes.proofs.folded.Folded.start.Goals as goal

pub returns : goal.returns
returns c = ap state_of c.from.ensures ∙ c.start.ensures
