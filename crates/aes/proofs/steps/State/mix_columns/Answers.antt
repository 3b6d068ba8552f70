use Rattle.model.specs.Aes.{mix_columns}
use Rattle.aes.proofs.Joined.{joined}
use Rattle.aes.proofs.steps.State.mix_columns.Goals as goal

pub returns : goal.returns
unfolding mix_columns
returns c = joined c.mix_word-a.ensures c.mix_word-b.ensures c.mix_word-c.ensures c.mix_word-d.ensures
