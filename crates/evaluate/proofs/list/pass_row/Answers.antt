use Rattle.evaluate.proofs.GateListLaws.{pass_cases}
use Rattle.evaluate.proofs.list.pass_row.Goals as goal

pub returns-then-code_charge-eq0 : goal.returns-then-code_charge-eq0
returns-then-code_charge-eq0 c = search pass_cases

pub is_row-requires : goal.is_row-requires
is_row-requires c = search pass_cases

pub returns-then-not-is_row : goal.returns-then-not-is_row
returns-then-not-is_row c = search pass_cases

pub past-requires : goal.past-requires
past-requires c = search pass_cases

pub returns : goal.returns
returns c = search pass_cases
