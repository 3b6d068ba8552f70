use Prim.Native.Nat.{ℕ}
use borrow.Author.Rules.{rules}
use mathlib.Core.Path.{sym, ap}
use Rattle.model.specs.Scheme.{Scheme}
use Rattle.model.specs.Gax.{gax}
use Rattle.model.specs.Gaxr.{gaxr}
use Rattle.model.specs.HalfGates.{half}
use Rattle.model.proofs.Schemes.{is_gax, is_gaxr, is_half}
use Rattle.material.proofs.rows_stored.Goals as goal

rows : Scheme → ℕ
rows S = S.stored

pub returns-in-1 : goal.returns-in-1
unfolding gax gaxr half rows
returns-in-1 c = (sym (ap rows (is_gax _ c.in-1.is)), search rules)

pub returns-in-2 : goal.returns-in-2
unfolding gax gaxr half rows
returns-in-2 c = (sym (ap rows (is_gaxr _ c.in-2.is)), search rules)

pub returns-in_default : goal.returns-in_default
unfolding gax gaxr half rows
returns-in_default c = (sym (ap rows (is_half _ (search rules) (search rules))), search rules)
