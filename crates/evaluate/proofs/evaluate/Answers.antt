use Rattle.model.proofs.Verdicts.{passed}
use Rattle.circuit.proofs.AcceptedLaws.{check_accepted}
use Rattle.evaluate.proofs.EvaluateLaws.{evaluate_cases}
use Rattle.evaluate.proofs.evaluate.Goals as goal

pub overflow_add-bytes : goal.overflow_add-bytes
overflow_add-bytes c = search (evaluate_cases, c.in_ok-z.was)

pub overflow_mul-bytes : goal.overflow_mul-bytes
overflow_mul-bytes c = search (evaluate_cases, c.in_ok-z.was)

pub check_rest-requires : goal.check_rest-requires
check_rest-requires c = search (check_accepted, c.in_ok-z.was)

pub evaluate_wires-requires : goal.evaluate_wires-requires
evaluate_wires-requires c = search (evaluate_cases, c.in_ok-z.was, c.in_ok-check_rest.was)

pub returns-in_err-z : goal.returns-in_err-z
returns-in_err-z c = rw (passed _ _ c.from_residual.ensures.1) (search (evaluate_cases, c.in_err-z.was))

pub returns-in_err-check_rest : goal.returns-in_err-check_rest
returns-in_err-check_rest c = rw (passed _ _ c.from_residual-in_err-check_rest.ensures.1)
    (search (evaluate_cases, c.in_ok-z.was, c.in_err-check_rest.was))

pub returns : goal.returns
returns c = search (evaluate_cases, c.in_ok-z.was, c.in_ok-check_rest.was)
