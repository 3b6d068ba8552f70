use Rattle.garble.proofs.LastLaws.{pair_done, pair_room}
use Rattle.garble.proofs.last.write_pair.Goals as goal

pub store-requires-2 : goal.store-requires-2
store-requires-2 c = search pair_room

pub returns : goal.returns
returns c = search pair_done
