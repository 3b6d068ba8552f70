use Rattle.model.proofs.Verdicts.{steps, ran_passed}
use Rattle.evaluate.specs.Answers.{rest_verdict}
use Rattle.evaluate.proofs.GateListLaws.{list_cases, list_tried}
use Rattle.evaluate.proofs.list.check_list.Goals as goal

pub check_list_material-requires-clause-list_start : goal.check_list_material-requires-clause-list_start
check_list_material-requires-clause-list_start c = search (list_cases, c.in_ok-tried.was)

pub check_list_material-requires-clause-list_seen : goal.check_list_material-requires-clause-list_seen
check_list_material-requires-clause-list_seen c = search (list_cases, c.in_ok-tried.was)

pub returns-in_err-tried : goal.returns-in_err-tried
returns-in_err-tried c = ran_passed _ _ c.from_residual.ensures.1 _ (search (list_cases, c.in_err-tried.was))

pub returns-in_err-check_tokens : goal.returns-in_err-check_tokens
unfolding rest_verdict
returns-in_err-check_tokens c = ran_passed _ _ c.from_residual-in_err-check_tokens.ensures.1 _
    (list_tried _ _ c.requires _ _ _ _ c.try_gates.ensures _ c.in_ok-tried.was _ (search (steps, c.in_err-check_tokens.was) depth 8))

pub returns-in_err-check_list_material : goal.returns-in_err-check_list_material
unfolding rest_verdict
returns-in_err-check_list_material c = ran_passed _ _ c.from_residual-in_err-check_list_material.ensures.1 _
    (list_tried _ _ c.requires _ _ _ _ c.try_gates.ensures _ c.in_ok-tried.was _
    (search (steps, c.in_ok-check_tokens.was, c.in_err-check_list_material.was) depth 10))

pub returns : goal.returns
unfolding rest_verdict
returns c = list_tried _ _ c.requires _ _ _ _ c.try_gates.ensures _ c.in_ok-tried.was _
    (search (steps, c.in_ok-check_tokens.was, c.in_ok-check_list_material.was) depth 10)
