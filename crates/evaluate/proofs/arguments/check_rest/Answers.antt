use Rattle.model.proofs.Verdicts.{steps, ran_passed}
use Rattle.evaluate.specs.Answers.{rest_verdict}
use Rattle.evaluate.proofs.arguments.check_rest.Goals as goal

pub returns-in_err-check_tokens : goal.returns-in_err-check_tokens
unfolding rest_verdict
returns-in_err-check_tokens c = ran_passed _ _ c.from_residual.ensures.1 _ (search (steps, c.in_err-check_tokens.was) depth 8)

pub returns-in_err-check_material : goal.returns-in_err-check_material
unfolding rest_verdict
returns-in_err-check_material c = ran_passed _ _ c.from_residual-in_err-check_material.ensures.1 _
    (search (steps, c.in_ok-check_tokens.was, c.in_err-check_material.was) depth 10)

pub returns : goal.returns
unfolding rest_verdict
returns c = search (steps, c.in_ok-check_tokens.was, c.in_ok-check_material.was) depth 10
