use Rattle.evaluate.proofs.WalkLaws.{step_cases}
use Rattle.evaluate.proofs.walk.Opening.write_token.Goals as goal

pub write_free-requires-clause-code_value : goal.write_free-requires-clause-code_value
write_free-requires-clause-code_value c = search step_cases

pub returns-then-used_charge-eq0 : goal.returns-then-used_charge-eq0
returns-then-used_charge-eq0 c = search step_cases

pub write_charged-made-requires-clause-record_room : goal.write_charged-made-requires-clause-record_room
write_charged-made-requires-clause-record_room c = search step_cases

pub write_charged-made-requires-clause-code_value : goal.write_charged-made-requires-clause-code_value
write_charged-made-requires-clause-code_value c = search step_cases

pub overflow_add-calls : goal.overflow_add-calls
overflow_add-calls c = search step_cases

pub returns : goal.returns
returns c = search step_cases
