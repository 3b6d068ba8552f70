use Rattle.text.proofs.LineLaws.{sizes_written}
use Rattle.text.proofs.lines.write_sizes.Goals as goal

pub returns : goal.returns
returns c = search sizes_written
