use native.Mathlib.Omega.{arith}
use borrow.Author.Rules.{rules}
use Rattle.planes.proofs.Keys.{slicing_start, slicing_byte, slicing_turn, slicing_end}
use Rattle.planes.proofs.sliced.slice_pair.Goals as goal

pub loop-r-init : goal.loop-r-init
loop-r-init c = slicing_start _ _ _ (search rules)

pub next_constant-rc-requires : goal.next_constant-rc-requires
next_constant-rc-requires c = slicing_byte c.loop-r.invariant

pub loop-r-preserved : goal.loop-r-preserved
loop-r-preserved c = slicing_turn _ _ c.loop-r.invariant c.loop-r-test.true c.from.ensures c.from-in-loop-r.ensures c.put_key.ensures c.next_key-x.ensures
    c.next_key-y.ensures c.next_constant-rc.ensures

pub returns : goal.returns
returns c = slicing_end c.loop-r.invariant (omega arith) c.from-x.ensures c.from-y.ensures
