use mathlib.Core.Path.{refl}
use borrow.Author.Rules.{rules}
use native.Mathlib.Omega.{arith}
use Rattle.planes.proofs.TurnedKeys.{turned_few, turned_more}
use Rattle.planes.proofs.turned.turned.Goals as goal

pub returns-then-r-lt2 : goal.returns-then-r-lt2
returns-then-r-lt2 c = turned_few _ _ _ (search rules) c.turned_odd-h.ensures

pub swap_rows-requires : goal.swap_rows-requires
swap_rows-requires c = refl

pub returns : goal.returns
returns c = turned_more _ _ _ _ (λ h. omega arith) c.turned_odd-h.ensures c.swap_rows.ensures.0 c.swap_rows.ensures.1
