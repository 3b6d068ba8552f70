use Rattle.circuit.proofs.OutputLaws.{record_cases}
use Rattle.circuit.proofs.outputs.read_output.Goals as goal
use Rattle.circuit.proofs.outputs.read_output.Goals.{then-w-lt1-via-then-w-lt1, then-w-lt1-via-else-w-lt1+then-h-w}

pub output_record-at-requires : goal.output_record-at-requires
output_record-at-requires c = search record_cases

pub mark_at-requires : goal.mark_at-requires
mark_at-requires c = search record_cases

pub returns-then-not-mark_at : goal.returns-then-not-mark_at
returns-then-not-mark_at c = search record_cases

pub overflow_add-at : goal.overflow_add-at
overflow_add-at c = search record_cases

pub read16-w-requires : goal.read16-w-requires
read16-w-requires c = search record_cases

pub overflow_add-h : goal.overflow_add-h
overflow_add-h c = search record_cases

pub returns-then-w-lt1 : goal.returns-then-w-lt1
returns-then-w-lt1 c =
    elim c.then-w-lt1.branch [ then-w-lt1-via-then-w-lt1 w ↦ search record_cases | then-w-lt1-via-else-w-lt1+then-h-w w ↦ search record_cases ]

pub returns : goal.returns
returns c = search record_cases
