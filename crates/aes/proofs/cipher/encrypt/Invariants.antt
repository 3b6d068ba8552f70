use Prim.Native.Nat.{◌-◌}
use Rattle.aes.proofs.Rounds.{Through}
use Rattle.aes.proofs.cipher.encrypt.Given as goal

abbrev pub invariant-loop-r : goal.invariant-loop-r
invariant-loop-r l = Through l.w l.initial.s.bytes l.r l.s.bytes

abbrev pub decreases-loop-r : goal.decreases-loop-r
decreases-loop-r l = 10 - l.r
