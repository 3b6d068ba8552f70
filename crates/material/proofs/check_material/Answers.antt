use Rattle.model.proofs.Verdicts.{ran_passed}
use Rattle.circuit.proofs.AcceptedLaws.{few_outputs, few_charges}
use Rattle.material.proofs.MaterialLaws.{material_cases, material_calls}
use Rattle.material.proofs.check_material.Goals as goal

pub check_file-requires : goal.check_file-requires
check_file-requires c = (search few_outputs, search few_charges)

pub check_records-requires : goal.check_records-requires
check_records-requires c = search (material_calls, c.in_ok-check_file.was)

pub check_last-requires : goal.check_last-requires
check_last-requires c = search (material_calls, c.in_ok-check_file.was, c.in_ok-last.was)

pub returns-in_err-check_file : goal.returns-in_err-check_file
returns-in_err-check_file c = ran_passed _ _ c.from_residual.ensures.1 _ (search (material_cases, c.in_err-check_file.was))

pub returns-in_err-last : goal.returns-in_err-last
returns-in_err-last c =
    ran_passed _ _ c.from_residual-in_err-last.ensures.1 _ (search (material_cases, c.in_ok-check_file.was, c.in_err-last.was))

pub returns : goal.returns
returns c = search (material_cases, c.in_ok-check_file.was, c.in_ok-last.was)
