use mathlib.Core.Path.{ap}
use mathlib.Core.List.{[], ◌∷◌}
use Prim.Native.Nat.{ℕ, ◌-◌}
use borrow.Author.Rules.{rules}
use Rattle.model.specs.Aes.{xtime, power_of_x}
use Rattle.model.proofs.Lists.{entry}
use Rattle.aes.proofs.schedule.round_constant.Goals as goal

pub returns : goal.returns
unfolding xtime power_of_x
returns c = ap (λ (x : ℕ). x ∷ 0 ∷ 0 ∷ 0 ∷ []) (entry 0 10 power_of_x (c.args.j - 1) (search rules))
