use mathlib.Core.Path.{refl}
use Rattle.aes.proofs.FoldedLaws.{both}
use Rattle.aes.proofs.folded.FoldedFromWords.from.Goals as goal

pub returns : goal.returns
returns c = both _ _ refl refl c.fold-cd.ensures
