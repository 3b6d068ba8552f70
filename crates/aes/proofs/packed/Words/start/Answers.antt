use Rattle.aes.proofs.Rounds.{added}
use Rattle.aes.proofs.packed.Words.start.Goals as goal

pub returns : goal.returns
returns c = added _ _ _ c.round_key-k.ensures _ _ (rw c.from.ensures at c.add.ensures)
