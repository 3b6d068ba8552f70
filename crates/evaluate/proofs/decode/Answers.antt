use Rattle.model.proofs.Verdicts.{passed}
use Rattle.circuit.proofs.AcceptedLaws.{check_accepted}
use Rattle.evaluate.proofs.DecodeLaws.{decode_cases}
use Rattle.evaluate.proofs.decode.Goals as goal

pub check_rest-requires : goal.check_rest-requires
check_rest-requires c = search (check_accepted, c.in_ok-z.was)

pub decode_bits-requires : goal.decode_bits-requires
decode_bits-requires c = search (decode_cases, c.in_ok-z.was, c.in_ok-check_rest.was)

pub returns-in_err-z : goal.returns-in_err-z
returns-in_err-z c = rw (passed _ _ c.from_residual.ensures.1) (search (decode_cases, c.in_err-z.was))

pub returns-in_err-check_rest : goal.returns-in_err-check_rest
returns-in_err-check_rest c = rw (passed _ _ c.from_residual-in_err-check_rest.ensures.1)
    (search (decode_cases, c.in_ok-z.was, c.in_err-check_rest.was))

pub returns : goal.returns
returns c = search (decode_cases, c.in_ok-z.was, c.in_ok-check_rest.was)
