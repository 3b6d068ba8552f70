-- The conditions of an operation's arguments: the returns that are no single test of two numbers. Assumes nothing.
use Rattle.std.specs.Prelude.{Result, Ok}
use Rattle.model.specs.declared.Refusal.{Refusal}
use Prim.Native.Nat.{ℕ, ◌*◌, ◌/◌, ◌%◌}
use native.Mathlib.Omega.{arith}
use mathlib.Core.Path.{◌≡◌}
use mathlib.Core.Bool.{true, false}
use lib.Dec.{eqb}
use Rattle.model.proofs.Conditions.{same_holds, same_fails}

-- ---- check_tokens: a bytes are k tokens
module _ (a k : ℕ) where
  pub no_multiple : (a % 16 ≡ 0 → ⊥) → false ≡ eqb a (16 * k)
  no_multiple h = same_fails a (16 * k) (λ e. h (omega arith))

  pub other_count : (a / 16 ≡ k → ⊥) → false ≡ eqb a (16 * k)
  other_count h = same_fails a (16 * k) (λ e. h (omega arith))

  pub tokens_same : a % 16 ≡ 0 → a / 16 ≡ k → true ≡ eqb a (16 * k)
  tokens_same h l = same_holds a (16 * k) (omega arith)

pub ruleset argument_cases = (no_multiple, other_count, tokens_same)
