use Rattle.aes.proofs.Rounds.{round_keyed}
use Rattle.aes.proofs.packed.Words.round.Goals as goal

pub returns : goal.returns
returns c = round_keyed _ _ _ c.round_key-k.ensures _ _ c.keyed_round.ensures
