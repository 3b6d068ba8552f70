use Rattle.garble.proofs.GarbleIsLaws.{length_made}
use Rattle.garble.proofs.arguments.file_length.Goals as goal

pub returns : goal.returns
returns c = search length_made
