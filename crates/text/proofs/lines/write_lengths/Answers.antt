use Rattle.text.proofs.LineLaws.{lengths_written}
use Rattle.text.proofs.lines.write_lengths.Goals as goal

pub returns : goal.returns
returns c = search lengths_written
