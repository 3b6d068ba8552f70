use Rattle.model.proofs.Verdicts.{passed}
use Rattle.circuit.proofs.AcceptedLaws.{check_bounded}
use Rattle.garble.proofs.GarbleIsLaws.{garble_cases}
use Rattle.garble.proofs.garble.Goals as goal

pub garble_arguments-requires : goal.garble_arguments-requires
garble_arguments-requires c = check_bounded _ _ c.check.ensures _ c.in_ok-z.was

pub garble_or_wipe-requires : goal.garble_or_wipe-requires
garble_or_wipe-requires c = search (garble_cases, c.in_ok-z.was, c.in_ok-garble_arguments.was)

pub returns-in_err-z : goal.returns-in_err-z
returns-in_err-z c = rw (passed _ _ c.from_residual.ensures.1) (search (garble_cases, c.in_err-z.was))

pub returns-in_err-garble_arguments : goal.returns-in_err-garble_arguments
returns-in_err-garble_arguments c =
    rw (passed _ _ c.from_residual-in_err-garble_arguments.ensures.1) (search (garble_cases, c.in_ok-z.was, c.in_err-garble_arguments.was))

pub returns : goal.returns
returns c = search (garble_cases, c.in_ok-z.was, c.in_ok-garble_arguments.was)
