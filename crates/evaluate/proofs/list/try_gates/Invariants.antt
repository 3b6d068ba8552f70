use Rattle.model.specs.Circuit.{circuit_bytes}
use Rattle.evaluate.proofs.GateListLaws.{Trying}
use Rattle.evaluate.proofs.list.try_gates.Given as goal

abbrev pub invariant-loop-k : goal.invariant-loop-k
invariant-loop-k l = Trying (circuit_bytes l.z.n l.z.m l.gates) l.material l.k l.charged l.last l.next
