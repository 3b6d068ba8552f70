use Rattle.model.proofs.Verdicts.{passed}
use Rattle.circuit.proofs.AcceptedLaws.{check_bounded}
use Rattle.circuit.proofs.PlainLaws.{plain_cases}
use Rattle.circuit.proofs.plain.Goals as goal

pub plain_arguments-requires : goal.plain_arguments-requires
plain_arguments-requires c = check_bounded _ _ c.check.ensures _ c.in_ok-z.was

pub copy_front-requires : goal.copy_front-requires
copy_front-requires c = search (plain_cases, c.in_ok-z.was, c.in_ok-plain_arguments.was)

pub plain_gates-requires : goal.plain_gates-requires
plain_gates-requires c = search (plain_cases, c.in_ok-z.was, c.in_ok-plain_arguments.was)

pub returns-in_err-z : goal.returns-in_err-z
returns-in_err-z c = rw (passed _ _ c.from_residual.ensures.1) (search (plain_cases, c.in_err-z.was))

pub returns-in_err-plain_arguments : goal.returns-in_err-plain_arguments
returns-in_err-plain_arguments c =
    rw (passed _ _ c.from_residual-in_err-plain_arguments.ensures.1)
    (search (plain_cases, c.in_ok-z.was, c.in_err-plain_arguments.was))

pub returns : goal.returns
returns c = search (plain_cases, c.in_ok-z.was, c.in_ok-plain_arguments.was)
