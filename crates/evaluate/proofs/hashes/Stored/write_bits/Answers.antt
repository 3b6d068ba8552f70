use Rattle.evaluate.proofs.KnownLaws.{writing_cases}
use Rattle.evaluate.proofs.hashes.Stored.write_bits.Goals as goal

pub loop-i-init : goal.loop-i-init
loop-i-init c = search writing_cases

pub bounds-bits-i : goal.bounds-bits-i
bounds-bits-i c = search writing_cases

pub loop-i-preserved : goal.loop-i-preserved
loop-i-preserved c = search writing_cases

pub returns : goal.returns
returns c = search writing_cases
