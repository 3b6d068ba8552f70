use Rattle.model.proofs.Verdicts.{passed}
use Rattle.material.proofs.RecordLaws.{records_cases}
use Rattle.material.proofs.records.check_records.Goals as goal

pub loop-k-init : goal.loop-k-init
loop-k-init c = search records_cases

pub pass_gate-requires : goal.pass_gate-requires
pass_gate-requires c = search records_cases

pub loop-k-preserved : goal.loop-k-preserved
loop-k-preserved c = search (records_cases, c.in_ok-here.was)

pub returns-in_err-here : goal.returns-in_err-here
returns-in_err-here c = rw (passed _ _ c.from_residual.ensures.1) (search (records_cases, c.in_err-here.was))

pub returns : goal.returns
returns c = search records_cases
