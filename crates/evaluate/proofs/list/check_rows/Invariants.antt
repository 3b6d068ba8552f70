use Rattle.model.specs.Circuit.{circuit_bytes}
use Rattle.material.proofs.RecordLaws.{Reading}
use Rattle.evaluate.proofs.list.check_rows.Given as goal

abbrev pub invariant-loop-k : goal.invariant-loop-k
invariant-loop-k l = Reading (circuit_bytes l.z.n l.z.m l.gates) l.material l.z.q l.k l.here
