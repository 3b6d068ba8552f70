use Rattle.model.proofs.Verdicts.{passed}
use Rattle.evaluate.proofs.GateListLaws.{rows_cases}
use Rattle.evaluate.proofs.list.check_rows.Goals as goal

pub start_of-start-requires : goal.start_of-start-requires
start_of-start-requires c = search rows_cases

pub loop-k-init : goal.loop-k-init
loop-k-init c = search rows_cases

pub overflow_cast-due : goal.overflow_cast-due
overflow_cast-due c = search rows_cases

pub pass_row-requires : goal.pass_row-requires
pass_row-requires c = search rows_cases

pub loop-k-preserved : goal.loop-k-preserved
loop-k-preserved c = search (rows_cases, c.in_ok-here.was)

pub returns-in_err-here : goal.returns-in_err-here
returns-in_err-here c = rw (passed _ _ c.from_residual.ensures.1) (search (rows_cases, c.in_err-here.was))

pub returns : goal.returns
returns c = search rows_cases
