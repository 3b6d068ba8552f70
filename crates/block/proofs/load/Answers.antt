use mathlib.Core.Path.{refl, ◌∙◌}
use native.Mathlib.Omega.{arith}
use Rattle.model.proofs.Lists.{part}
use Rattle.block.proofs.Fill.{fill_start, fill_turn, fill_end}
use Rattle.block.proofs.load.Goals as goal

pub loop-i-init : goal.loop-i-init
loop-i-init c = fill_start (omega arith) refl

pub loop-i-preserved : goal.loop-i-preserved
loop-i-preserved c = fill_turn c.loop-i.invariant refl (omega arith)

pub returns : goal.returns
returns c = fill_end c.loop-i.invariant (omega arith) ∙ part _ _ 16 c.requires
