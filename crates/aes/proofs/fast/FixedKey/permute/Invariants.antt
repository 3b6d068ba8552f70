use Prim.Native.Nat.{◌-◌}
use Rattle.aes.specs.Tables.{state_of}
use Rattle.aes.proofs.Rounds.{Through}
use Rattle.aes.proofs.fast.FixedKey.permute.Given as goal

abbrev pub invariant-loop-r : goal.invariant-loop-r
invariant-loop-r l = Through l.self.schedule (state_of l.initial.s) l.r (state_of l.s)

abbrev pub decreases-loop-r : goal.decreases-loop-r
decreases-loop-r l = 10 - l.r
