use Rattle.circuit.proofs.OutputLaws.{output_cases}
use borrow.Author.Rules.{rules}
use Rattle.circuit.proofs.outputs.output_wire.Goals as goal

pub is_named-requires : goal.is_named-requires
is_named-requires c = search output_cases

pub output_record-requires : goal.output_record-requires
output_record-requires c = search (output_cases, rules)

pub overflow_add-output_record : goal.overflow_add-output_record
overflow_add-output_record c = search (output_cases, rules)

pub read16-requires : goal.read16-requires
read16-requires c = search (output_cases, rules)

pub returns-then-is_named : goal.returns-then-is_named
returns-then-is_named c = search output_cases

pub overflow_add-result : goal.overflow_add-result
overflow_add-result c = search output_cases

pub overflow_sub-result : goal.overflow_sub-result
overflow_sub-result c = search output_cases

pub overflow_add-result-2 : goal.overflow_add-result-2
overflow_add-result-2 c = search (output_cases, rules)

pub overflow_add-result-3 : goal.overflow_add-result-3
overflow_add-result-3 c = search (output_cases, rules)

pub overflow_cast-result : goal.overflow_cast-result
overflow_cast-result c = search (output_cases, rules)

pub returns : goal.returns
returns c = search output_cases
