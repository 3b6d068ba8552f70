use Rattle.evaluate.proofs.GateListLaws.{stride_none}
use Rattle.evaluate.proofs.list.stride_of.Goals as goal

pub returns-then-material-le2 : goal.returns-then-material-le2
returns-then-material-le2 c = search stride_none
