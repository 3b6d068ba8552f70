use Rattle.model.proofs.Verdicts.{no_passed}
use Rattle.circuit.proofs.SearchLaws.{search_cases}
use Rattle.circuit.proofs.gates.search_gates.Goals as goal

pub loop-k-init : goal.loop-k-init
loop-k-init c = search search_cases

pub overflow_add-p : goal.overflow_add-p
overflow_add-p c = search (search_cases, c.in_ok-p.was)

pub loop-k-preserved : goal.loop-k-preserved
loop-k-preserved c = search (search_cases, c.in_ok-p.was)

pub returns-in_err-p : goal.returns-in_err-p
returns-in_err-p c = no_passed _ _ c.from_residual.ensures.1 _ (search (search_cases, c.in_err-p.was))
