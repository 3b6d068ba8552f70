use Rattle.model.proofs.Verdicts.{no_passed}
use Rattle.evaluate.proofs.GateListLaws.{try_cases}
use Rattle.evaluate.proofs.list.try_gates.Goals as goal

pub loop-k-init : goal.loop-k-init
loop-k-init c = search try_cases

pub overflow_cast-own : goal.overflow_cast-own
overflow_cast-own c = search try_cases

pub overflow_add-charged : goal.overflow_add-charged
overflow_add-charged c = search (try_cases, c.in_ok-x.was)

pub row_passed-next-requires-clause-low : goal.row_passed-next-requires-clause-low
row_passed-next-requires-clause-low c = search try_cases

pub row_passed-next-requires-clause-fits : goal.row_passed-next-requires-clause-fits
row_passed-next-requires-clause-fits c = search try_cases

pub loop-k-preserved : goal.loop-k-preserved
loop-k-preserved c = search (try_cases, c.in_ok-x.was)

pub returns-in_err-x : goal.returns-in_err-x
returns-in_err-x c = no_passed _ _ c.from_residual.ensures.1 _ (search (try_cases, c.in_err-x.was))

pub returns : goal.returns
returns c = search try_cases
