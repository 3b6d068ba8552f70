use mathlib.Core.Path.{◌∙◌}
use native.Mathlib.Omega.{arith}
use borrow.Author.Rules.{rules}
use Rattle.aes.proofs.Columns.{key_state}
use Rattle.planes.proofs.Keys.{sliced_start, sliced_turn, sliced_end, sliced_one}
use Rattle.planes.proofs.sliced.slice_one.Goals as goal

pub loop-r-init : goal.loop-r-init
loop-r-init c = sliced_start (search rules)

pub loop-r-preserved : goal.loop-r-preserved
loop-r-preserved c = let is_x = c.from-x.ensures ∙ key_state _ _ _ c.round_key.ensures in
    sliced_turn c.loop-r.invariant (omega arith) is_x is_x c.put_key.ensures

pub returns : goal.returns
returns c = sliced_one _ _ (sliced_end c.loop-r.invariant (omega arith))
