use Rattle.model.proofs.Verdicts.{steps, ran_passed}
use Rattle.garble.specs.Answers.{garble_arguments}
use Rattle.garble.proofs.arguments.garble_arguments.Goals as goal

pub returns-in_err-check_seed : goal.returns-in_err-check_seed
unfolding garble_arguments
returns-in_err-check_seed c = ran_passed _ _ c.from_residual.ensures.1 _ (search (steps, c.in_err-check_seed.ensures) depth 8)

pub returns-in_err-check_mark : goal.returns-in_err-check_mark
unfolding garble_arguments
returns-in_err-check_mark c = ran_passed _ _ c.from_residual-in_err-check_mark.ensures.1 _ (search (steps, c.in_ok-check_seed.ensures, c.in_err-check_mark.ensures) depth 8)

pub returns-in_err-check_scheme : goal.returns-in_err-check_scheme
unfolding garble_arguments
returns-in_err-check_scheme c = ran_passed _ _ c.from_residual-in_err-check_scheme.ensures.1 _ (search (steps, c.in_ok-check_seed.ensures, c.in_ok-check_mark.ensures, c.in_err-check_scheme.ensures) depth 8)

pub returns : goal.returns
unfolding garble_arguments
returns c = search (steps, c.in_ok-check_seed.ensures, c.in_ok-check_mark.ensures, c.in_ok-check_scheme.ensures) depth 8
