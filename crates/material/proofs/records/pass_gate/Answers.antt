use borrow.Author.Rules.{rules}
use Rattle.material.proofs.RecordLaws.{gate_cases, gate_inside}
use Rattle.material.proofs.records.pass_gate.Goals as goal

pub returns-in-Charged : goal.returns-in-Charged
returns-in-Charged c = search gate_cases

pub returns-in-Free : goal.returns-in-Free
returns-in-Free c = search gate_cases

pub gate_at-g-requires : goal.gate_at-g-requires
gate_at-g-requires c = (search gate_inside, search rules)
