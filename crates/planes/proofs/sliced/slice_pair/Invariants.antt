use Prim.Native.Nat.{◌-◌}
use Rattle.planes.proofs.Keys.{Slicing}
use Rattle.planes.proofs.sliced.slice_pair.Given as goal

abbrev pub invariant-loop-r : goal.invariant-loop-r
invariant-loop-r l = Slicing l.initial.x l.initial.y l.k l.x l.y l.rc l.r

abbrev pub decreases-loop-r : goal.decreases-loop-r
decreases-loop-r l = 11 - l.r
