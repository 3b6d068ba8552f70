use Rattle.aes.specs.Tables.{state_of}
use Rattle.aes.proofs.Columns.{added_state}
use Rattle.aes.proofs.packed.Words.add.Goals as goal

pub returns : goal.returns
unfolding state_of
returns c = added_state _ _ _ _ _ _ _ _
