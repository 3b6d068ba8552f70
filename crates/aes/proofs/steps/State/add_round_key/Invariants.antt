use Prim.Native.Nat.{◌+◌, ◌-◌, ◌*◌}
use lib.Bits.{bit_xor}
use lib.ListN.{get_or}
use Rattle.block.proofs.Fill.{Filled}
use Rattle.aes.proofs.steps.State.add_round_key.Given as goal

abbrev pub invariant-loop-i : goal.invariant-loop-i
invariant-loop-i l = Filled 16 16 (λ k. bit_xor (get_or l.s k 0) (get_or l.w (16 * l.r + k) 0)) l.i l.x

abbrev pub decreases-loop-i : goal.decreases-loop-i
decreases-loop-i l = 16 - l.i
