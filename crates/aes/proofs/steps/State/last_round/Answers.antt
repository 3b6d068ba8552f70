use Rattle.aes.proofs.Rounds.{last_is}
use Rattle.aes.proofs.steps.State.last_round.Goals as goal

pub returns : goal.returns
returns c = search last_is
