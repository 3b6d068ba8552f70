use Rattle.model.proofs.Verdicts.{passed}
use Rattle.evaluate.proofs.GateListLaws.{gates_cases}
use Rattle.evaluate.proofs.list.walk_gates.Goals as goal

pub check_list-requires : goal.check_list-requires
check_list-requires c = search (gates_cases, c.in_ok-z.was)

pub copy_front-requires : goal.copy_front-requires
copy_front-requires c = search (gates_cases, c.in_ok-z.was, c.in_ok-check_list.was)

pub write_list-requires-clause-list_start : goal.write_list-requires-clause-list_start
write_list-requires-clause-list_start c = search (gates_cases, c.in_ok-z.was)

pub write_list-requires-clause-walk_start : goal.write_list-requires-clause-walk_start
write_list-requires-clause-walk_start c = search (gates_cases, c.in_ok-z.was, c.in_ok-check_list.was)

pub returns-in_err-z : goal.returns-in_err-z
returns-in_err-z c = rw (passed _ _ c.from_residual.ensures.1) (search (gates_cases, c.in_err-z.was))

pub returns-in_err-check_list : goal.returns-in_err-check_list
returns-in_err-check_list c = rw (passed _ _ c.from_residual-in_err-check_list.ensures.1)
    (search (gates_cases, c.in_ok-z.was, c.in_err-check_list.was))

pub returns : goal.returns
returns c = search (gates_cases, c.in_ok-z.was, c.in_ok-check_list.was)
