use Rattle.garble.proofs.LastLaws.{Writing}
use Rattle.garble.proofs.last.write_colours.Given as goal

abbrev pub invariant-loop-i : goal.invariant-loop-i
invariant-loop-i l = Writing l.circuit l.zeros l.at l.initial.material l.i l.material
