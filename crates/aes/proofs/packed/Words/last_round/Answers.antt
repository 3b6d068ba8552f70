use Rattle.aes.proofs.Rounds.{added}
use Rattle.aes.proofs.packed.Words.last_round.Goals as goal

pub returns : goal.returns
returns c = added _ _ _ c.round_key-k.ensures _ _ c.keyed_last.ensures
