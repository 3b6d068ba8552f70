use Rattle.model.proofs.Verdicts.{ran_passed, search_cases}
use Rattle.circuit.proofs.outputs.search_records.Goals as goal

pub loop-k-init : goal.loop-k-init
loop-k-init c = search search_cases

pub loop-k-preserved : goal.loop-k-preserved
loop-k-preserved c = search (search_cases, c.in_ok-read_output.was)

pub returns-in_err-read_output : goal.returns-in_err-read_output
returns-in_err-read_output c = ran_passed _ _ c.from_residual.ensures.1 _ (search (search_cases, c.in_err-read_output.was))
