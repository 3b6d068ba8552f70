use mathlib.Core.Path.{◌≡◌, ap}
use Prim.Native.Nat.{ℕ, ◌+◌, ◌*◌, ◌/◌}
use native.Mathlib.Omega.{arith}
use lib.Bits.{bit_or, or_step, or_zero_r}
use lib.ListN.{get_or, set}
use Rattle.model.specs.Tokens.{coloured}
use Rattle.block.proofs.Block.coloured.Goals as goal

lowest_set : (x : ℕ) → bit_or x 1 ≡ x / 2 * 2 + 1
lowest_set x = omega (arith, or_step x 1, or_zero_r (x / 2))

pub returns : goal.returns
unfolding coloured
returns c = let a = c.args.self.bytes in ap (set a 15) (lowest_set (get_or a 15 0))
