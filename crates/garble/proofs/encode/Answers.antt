use Rattle.model.proofs.Verdicts.{passed}
use Rattle.circuit.proofs.AcceptedLaws.{check_bounded}
use Rattle.garble.proofs.EncodeIsLaws.{encode_cases}
use Rattle.garble.proofs.encode.Goals as goal

pub encode_arguments-requires : goal.encode_arguments-requires
encode_arguments-requires c = check_bounded _ _ c.check.ensures _ c.in_ok-z.was

pub encode_inputs-requires : goal.encode_inputs-requires
encode_inputs-requires c = search (encode_cases, c.in_ok-z.was, c.in_ok-encode_arguments.was)

pub returns-in_err-z : goal.returns-in_err-z
returns-in_err-z c = rw (passed _ _ c.from_residual.ensures.1) (search (encode_cases, c.in_err-z.was))

pub returns-in_err-encode_arguments : goal.returns-in_err-encode_arguments
returns-in_err-encode_arguments c =
    rw (passed _ _ c.from_residual-in_err-encode_arguments.ensures.1) (search (encode_cases, c.in_ok-z.was, c.in_err-encode_arguments.was))

pub returns : goal.returns
returns c = search (encode_cases, c.in_ok-z.was, c.in_ok-encode_arguments.was)
