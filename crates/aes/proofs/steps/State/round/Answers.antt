use Rattle.aes.proofs.Rounds.{round_is}
use Rattle.aes.proofs.steps.State.round.Goals as goal

pub returns : goal.returns
returns c = search round_is
