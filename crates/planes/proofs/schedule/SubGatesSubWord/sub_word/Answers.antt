use mathlib.Core.Path.{refl}
use Rattle.planes.proofs.SubWords.{sub_word_is}
use Rattle.planes.proofs.schedule.SubGatesSubWord.sub_word.Goals as goal

pub returns : goal.returns
returns c = sub_word_is _ _ refl refl c.cipher_from-y.ensures
