use Rattle.material.proofs.LengthLaws.{length_made}
use Rattle.material.proofs.material_length.Goals as goal

pub returns : goal.returns
returns c = search length_made
