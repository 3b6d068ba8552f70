use Prim.Native.Nat.{◌-◌}
use Rattle.planes.proofs.Rounds.{Through}
use Rattle.planes.proofs.cipher.cipher_from.Given as goal

abbrev pub invariant-loop-i : goal.invariant-loop-i
invariant-loop-i l = Through l.k l.initial.i l.initial.s l.i l.s

abbrev pub decreases-loop-i : goal.decreases-loop-i
decreases-loop-i l = 11 - l.i
