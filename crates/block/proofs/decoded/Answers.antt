use Prim.Native.Nat.{ℕ, ◌≤◌}
use native.Mathlib.Omega.{arith}
use mathlib.Core.Path.{◌≡◌}
use lib.Bits.{bit_xor}
use Rattle.model.specs.Tokens.{decoded}
use Rattle.model.proofs.Xor.{xor_digit}
use Rattle.block.proofs.decoded.Goals as goal

-- of two bits
is_decoded : (c x : ℕ) → c ≤ 1 → x ≤ 1 → bit_xor c x ≡ decoded c x
is_decoded c x hc hx = xor_digit c x (omega arith) (omega arith)

pub returns : goal.returns
returns c = search is_decoded
