use Rattle.model.proofs.Buffers.{copy_turn}
use Rattle.buffer.proofs.copy_front.Goals as goal

pub loop-j-preserved : goal.loop-j-preserved
loop-j-preserved c = copy_turn _ _ _ _ c.requires c.loop-j-test.true c.loop-j.invariant
