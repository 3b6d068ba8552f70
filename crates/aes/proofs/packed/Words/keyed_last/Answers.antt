use Rattle.aes.proofs.Rounds.{last_keyed}
use Rattle.aes.proofs.packed.Words.keyed_last.Goals as goal

pub returns : goal.returns
returns c = last_keyed _ _ _ _ _ c.from.ensures c.add.ensures c.shifted.ensures
