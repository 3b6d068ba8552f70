use Rattle.evaluate.proofs.GateListLaws.{begun_first}
use Rattle.evaluate.proofs.list.begin.Goals as goal

pub returns : goal.returns
returns c = begun_first _ _ _ _ c.if-q-gt65535.false c.sizes_hold.ensures c.if-not-sizes_hold.false
