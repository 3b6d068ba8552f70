use Rattle.circuit.proofs.ValueLaws.{gate_cases, plain_turn}
use Rattle.circuit.proofs.values.plain_gates.Goals as goal

pub gate_at-g-requires : goal.gate_at-g-requires
gate_at-g-requires c = search gate_cases

pub loop-k-preserved : goal.loop-k-preserved
loop-k-preserved c = search gate_cases

pub loop-k-init : goal.loop-k-init
loop-k-init c = search gate_cases

pub overflow_sub-u : goal.overflow_sub-u
overflow_sub-u c = search gate_cases

pub bounds-wires-g : goal.bounds-wires-g
bounds-wires-g c = search gate_cases

pub overflow_sub-v : goal.overflow_sub-v
overflow_sub-v c = search gate_cases

pub bounds-wires-g-in-loop-k : goal.bounds-wires-g-in-loop-k
bounds-wires-g-in-loop-k c = search gate_cases

pub invariant_of-u : goal.invariant_of-u
invariant_of-u c = search gate_cases

pub invariant_of-v : goal.invariant_of-v
invariant_of-v c = search gate_cases

pub returns : goal.returns
returns c = search gate_cases
