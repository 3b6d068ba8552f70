use mathlib.Core.Path.{refl}
use native.Mathlib.Omega.{arith}
use Rattle.model.specs.Aes.{sub_bytes}
use Rattle.block.proofs.Fill.{fill_start, fill_turn, fill_end}
use Rattle.aes.proofs.steps.State.sub_bytes.Goals as goal

pub loop-i-init : goal.loop-i-init
loop-i-init c = fill_start (omega arith) refl

pub loop-i-preserved : goal.loop-i-preserved
loop-i-preserved c = fill_turn c.loop-i.invariant c.sub.ensures (omega arith)

pub returns : goal.returns
unfolding sub_bytes
returns c = fill_end c.loop-i.invariant (omega arith)
