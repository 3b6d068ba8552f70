use Prim.Native.Nat.{◌-◌}
use Rattle.aes.specs.Tables.{state_of}
use Rattle.aes.specs.Folded.{columns}
use Rattle.aes.proofs.NextKeys.{Beside}
use Rattle.aes.proofs.rekeyed.encrypt_each_under.Given as goal

abbrev pub invariant-loop-r : goal.invariant-loop-r
invariant-loop-r l = Beside l.initial.k (state_of l.initial.s) l.r l.k l.rc (state_of l.s) × Beside l.initial.l (state_of (columns l.initial.t)) l.r l.l l.rc (state_of (columns l.t))

abbrev pub decreases-loop-r : goal.decreases-loop-r
decreases-loop-r l = 10 - l.r
