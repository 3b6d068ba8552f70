use Rattle.model.proofs.Verdicts.{ran_passed}
use Rattle.circuit.proofs.AcceptedLaws.{few_outputs, few_charges}
use Rattle.material.proofs.MaterialLaws.{material_cases, material_calls}
use Rattle.evaluate.proofs.GateListLaws.{rows_known}
use Rattle.evaluate.proofs.list.check_list_material.Goals as goal

pub check_file-requires : goal.check_file-requires
check_file-requires c = (few_outputs _ _ c.requires.list_seen.known, few_charges _ _ c.requires.list_seen.known)

pub check_rows-requires-clause-rows_seen : goal.check_rows-requires-clause-rows_seen
check_rows-requires-clause-rows_seen c = search (rows_known, c.in_ok-check_file.was)

pub check_last-requires : goal.check_last-requires
check_last-requires c = search (material_calls, c.requires.list_seen.known, c.in_ok-check_file.was, c.in_ok-end.was)

pub returns-in_err-check_file : goal.returns-in_err-check_file
returns-in_err-check_file c =
    ran_passed _ _ c.from_residual.ensures.1 _ (search (material_cases, c.requires.list_seen.known, c.in_err-check_file.was))

pub returns-in_err-end : goal.returns-in_err-end
returns-in_err-end c = ran_passed _ _ c.from_residual-in_err-end.ensures.1 _
    (search (material_cases, c.requires.list_seen.known, c.in_ok-check_file.was, c.in_err-end.was))

pub returns : goal.returns
returns c = search (material_cases, c.requires.list_seen.known, c.in_ok-check_file.was, c.in_ok-end.was)
