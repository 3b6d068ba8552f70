use Rattle.model.proofs.Verdicts.{steps, ran_passed}
use Rattle.evaluate.specs.Answers.{output_arguments}
use Rattle.evaluate.proofs.arguments.output_arguments.Goals as goal

pub returns-in_err-check_tokens : goal.returns-in_err-check_tokens
unfolding output_arguments
returns-in_err-check_tokens c = ran_passed _ _ c.from_residual.ensures.1 _ (search (steps, c.in_err-check_tokens.was) depth 8)

pub returns : goal.returns
unfolding output_arguments
returns c = search (steps, c.in_ok-check_tokens.was) depth 8
