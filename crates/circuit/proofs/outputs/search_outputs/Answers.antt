use Rattle.circuit.proofs.OutputLaws.{outputs_cases}
use Rattle.circuit.proofs.outputs.search_outputs.Goals as goal

pub is_named-requires : goal.is_named-requires
is_named-requires c = search outputs_cases

pub returns-then-not-is_named : goal.returns-then-not-is_named
returns-then-not-is_named c = search outputs_cases

pub returns : goal.returns
returns c = search outputs_cases
