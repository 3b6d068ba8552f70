use Rattle.model.proofs.Mix.{mixed}
use Rattle.aes.proofs.steps.mix_byte.Goals as goal

pub returns : goal.returns
returns c = search mixed
