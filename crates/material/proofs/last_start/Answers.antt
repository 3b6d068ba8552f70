use Rattle.material.proofs.LengthLaws.{start_cases}
use Rattle.material.proofs.last_start.Goals as goal

pub returns : goal.returns
returns c = (search start_cases, search start_cases)
