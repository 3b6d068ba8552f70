use Rattle.model.specs.Aes.{mix_word}
use Rattle.aes.proofs.steps.mix_word.Goals as goal

pub returns : goal.returns
unfolding mix_word
returns c = cc
