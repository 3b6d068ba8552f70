-- Free gates: the sum of the tokens held is the gate's token for its value. Assumes nothing.
use Prim.Native.Nat.{ℕ, ◌*◌}
use mathlib.Core.Path.{◌≡◌}
use Rattle.model.specs.Aes.{Block, times}
use Rattle.model.specs.Tokens.{free_zero, free_token}
use Rattle.model.proofs.Bits.{Bit, b0, b1, bit_differ, bit_product}
use Rattle.model.proofs.XorRules.{xors, xors_times}
use Rattle.model.proofs.Tokens.{token_for, token_of_sum}
use Rattle.model.proofs.Codes.{free_value}

-- p times a token
times_token : {p u : ℕ} (R x : Block) → Bit p → Bit u → times p (token_for R x u) ≡ token_for R (times p x) (p * u)
times_token R x b0 b0 = simp xors_times
times_token R x b0 b1 = simp xors_times
times_token R x b1 b0 = simp xors_times
times_token R x b1 b1 = simp xors_times

pub free_gate_evaluates : {p q c u v : ℕ} (R x y : Block) → Bit p → Bit q → Bit c → Bit u → Bit v
    → free_token p q (token_for R x u) (token_for R y v) ≡ token_for R (free_zero p q c R x y) (free_value p q c u v)
unfolding free_token free_zero
free_gate_evaluates R x y hp hq hc hu hv =
    let pu = bit_product hp hu in
    let qv = bit_product hq hv in
    rw (times_token R x hp hu, times_token R y hq hv, token_of_sum R _ (bit_differ pu qv) hc, token_of_sum R _ pu qv) (simp xors)
