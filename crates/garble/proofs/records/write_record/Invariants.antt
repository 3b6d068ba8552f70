use Prim.Native.Nat.{◌+◌}
use Rattle.garble.proofs.RecordLaws.{Recording}
use Rattle.garble.proofs.records.write_record.Given as goal

abbrev pub invariant-loop-i : goal.invariant-loop-i
invariant-loop-i l = Recording l.initial.material (l.at + 4) l.row-items l.i l.material
