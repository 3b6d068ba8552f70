use Rattle.model.proofs.Verdicts.{together_start, together_end}
use Rattle.evaluate.proofs.KnownLaws.{token_together}
use Rattle.evaluate.proofs.hashes.Stored.unknown_together.Goals as goal

pub loop-i-init : goal.loop-i-init
loop-i-init c = search together_start

pub loop-i-preserved : goal.loop-i-preserved
loop-i-preserved c = search token_together

pub returns : goal.returns
returns c none = search together_end
