use Rattle.aes.specs.Tables.{state_of}
use Rattle.aes.proofs.Columns.{shifted_state}
use Rattle.aes.proofs.packed.Words.shifted.Goals as goal

pub returns : goal.returns
unfolding state_of
returns c = search shifted_state
