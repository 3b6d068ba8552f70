use Rattle.garble.proofs.LastLaws.{Hashing}
use Rattle.garble.proofs.last.write_hashes.Given as goal

abbrev pub invariant-loop-i : goal.invariant-loop-i
invariant-loop-i l = Hashing l.circuit l.zeros l.r.bytes l.at l.initial.material l.i l.material
