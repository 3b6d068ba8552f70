use Rattle.model.specs.Program.{refused_word}
use Rattle.text.proofs.LineLaws.{refusal_written}
use Rattle.text.proofs.lines.write_refusal.Goals as goal

pub returns : goal.returns
unfolding refused_word
returns c = search refusal_written
