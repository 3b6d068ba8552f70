use Rattle.model.proofs.Verdicts.{passed}
use Rattle.circuit.proofs.AcceptedLaws.{check_bounded}
use Rattle.evaluate.proofs.OutputLaws.{output_cases}
use Rattle.evaluate.proofs.output_tokens.Goals as goal

pub output_arguments-requires : goal.output_arguments-requires
output_arguments-requires c = search (check_bounded, c.in_ok-z.was)

pub gather_tokens-requires : goal.gather_tokens-requires
gather_tokens-requires c = search (output_cases, c.in_ok-z.was, c.in_ok-output_arguments.was)

pub returns-in_err-z : goal.returns-in_err-z
returns-in_err-z c = rw (passed _ _ c.from_residual.ensures.1) (search (output_cases, c.in_err-z.was))

pub returns-in_err-output_arguments : goal.returns-in_err-output_arguments
returns-in_err-output_arguments c = rw (passed _ _ c.from_residual-in_err-output_arguments.ensures.1)
    (search (output_cases, c.in_ok-z.was, c.in_err-output_arguments.was))

pub returns : goal.returns
returns c = search (output_cases, c.in_ok-z.was, c.in_ok-output_arguments.was)
