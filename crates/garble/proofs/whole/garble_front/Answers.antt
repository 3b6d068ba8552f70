use Rattle.garble.proofs.WholeLaws.{front_done}
use Rattle.garble.proofs.whole.garble_front.Goals as goal

pub returns : goal.returns
returns c = search front_done
