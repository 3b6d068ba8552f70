use Rattle.material.proofs.RecordLaws.{Reading}
use Rattle.material.proofs.records.check_records.Given as goal

abbrev pub invariant-loop-k : goal.invariant-loop-k
invariant-loop-k l = Reading l.circuit l.material l.z.q l.k l.here
