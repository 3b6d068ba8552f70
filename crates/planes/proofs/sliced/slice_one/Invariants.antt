use Prim.Native.Nat.{◌-◌}
use Rattle.planes.proofs.Keys.{SlicedTo}
use Rattle.planes.proofs.sliced.slice_one.Given as goal

abbrev pub invariant-loop-r : goal.invariant-loop-r
invariant-loop-r l = SlicedTo l.w l.w l.r l.k

abbrev pub decreases-loop-r : goal.decreases-loop-r
decreases-loop-r l = 11 - l.r
