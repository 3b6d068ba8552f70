use Prim.Native.Nat.{◌-◌}
use lib.ListN.{get_or}
use Rattle.model.specs.Aes.{s_box}
use Rattle.block.proofs.Fill.{Filled}
use Rattle.aes.proofs.steps.State.sub_bytes.Given as goal

abbrev pub invariant-loop-i : goal.invariant-loop-i
invariant-loop-i l = Filled 16 16 (λ k. s_box (get_or l.s k 0)) l.i l.x

abbrev pub decreases-loop-i : goal.decreases-loop-i
decreases-loop-i l = 16 - l.i
