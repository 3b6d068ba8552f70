use Rattle.model.specs.Circuit.{circuit_bytes}
use Rattle.evaluate.specs.Walk.{Walking}
use Rattle.evaluate.proofs.list.write_list.Given as goal

abbrev pub invariant-loop-k : goal.invariant-loop-k
invariant-loop-k l = Walking (circuit_bytes l.fn.z.n l.fn.z.m l.gates) l.material l.fn.z.n l.fn.z.q l.initial.wires l.k l.s.here.at l.s.calls l.wires
