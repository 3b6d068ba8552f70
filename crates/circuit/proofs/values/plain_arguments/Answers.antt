use Rattle.model.proofs.Verdicts.{steps, ran_passed}
use Rattle.circuit.specs.Answers.{plain_arguments}
use Rattle.circuit.proofs.values.plain_arguments.Goals as goal

pub returns-in_err-check_values : goal.returns-in_err-check_values
unfolding plain_arguments
returns-in_err-check_values c = ran_passed _ _ c.from_residual.ensures.1 _ (search (steps, c.in_err-check_values.ensures))

pub returns : goal.returns
unfolding plain_arguments
returns c = search (steps, c.in_ok-check_values.ensures)
