use Rattle.model.proofs.Verdicts.{steps, ran_passed}
use Rattle.garble.specs.Answers.{encode_arguments}
use Rattle.garble.proofs.arguments.encode_arguments.Goals as goal

pub returns-in_err-check_values : goal.returns-in_err-check_values
unfolding encode_arguments
returns-in_err-check_values c = ran_passed _ _ c.from_residual.ensures.1 _ (search (steps, c.in_err-check_values.ensures) depth 8)

pub returns-in_err-check_tokens : goal.returns-in_err-check_tokens
unfolding encode_arguments
returns-in_err-check_tokens c = ran_passed _ _ c.from_residual-in_err-check_tokens.ensures.1 _ (search (steps, c.in_ok-check_values.ensures, c.in_err-check_tokens.ensures) depth 8)

pub returns-in_err-check_tokens-2 : goal.returns-in_err-check_tokens-2
unfolding encode_arguments
returns-in_err-check_tokens-2 c = ran_passed _ _ c.from_residual-in_err-check_tokens-2.ensures.1 _ (search (steps, c.in_ok-check_values.ensures, c.in_ok-check_tokens.ensures, c.in_err-check_tokens-2.ensures) depth 8)

pub returns : goal.returns
unfolding encode_arguments
returns c = search (steps, c.in_ok-check_values.ensures, c.in_ok-check_tokens.ensures, c.in_ok-check_tokens-2.ensures) depth 8
