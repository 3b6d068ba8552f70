use Rattle.material.proofs.EndingLaws.{due_is}
use Rattle.material.proofs.file.due_length.Goals as goal

pub returns : goal.returns
returns c = search due_is
