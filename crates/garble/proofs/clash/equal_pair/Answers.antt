use Rattle.garble.proofs.ClashLaws.{pair_read}
use Rattle.garble.proofs.clash.equal_pair.Goals as goal

pub returns : goal.returns
returns c = search pair_read
