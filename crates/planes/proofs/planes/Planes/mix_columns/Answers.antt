use mathlib.Core.Path.{refl}
use native.Mathlib.Omega.{arith}
use Rattle.model.specs.Aes.{bit}
use Rattle.planes.specs.Mixing.{below}
use Rattle.planes.proofs.Mixes.{mixes_by, mixed_last, mixed_other}
use Rattle.planes.proofs.planes.Planes.mix_columns.Goals as goal

pub returns-then-r-eq10 : goal.returns-then-r-eq10
returns-then-r-eq10 c = mixed_last (omega arith)

pub returns-then-k-eq0 : goal.returns-then-k-eq0
unfolding bit below
returns-then-k-eq0 c = mixed_other 0 (λ e. omega arith) (omega arith) (mixes_by 0 _ _ _ _ _ c.rotate.ensures c.mix_straight.ensures refl refl)

pub returns-then-k-eq1 : goal.returns-then-k-eq1
unfolding bit below
returns-then-k-eq1 c = mixed_other 1 (λ e. omega arith) (omega arith) (mixes_by 1 _ _ _ _ _ c.rotate_either.ensures c.mix_across.ensures refl refl)

pub returns-then-k-eq2 : goal.returns-then-k-eq2
unfolding bit below
returns-then-k-eq2 c = mixed_other 2 (λ e. omega arith) (omega arith) (mixes_by 2 _ _ _ _ _ c.rotate_either-then-k-eq2.ensures c.mix_straight-then-k-eq2.ensures refl refl)

pub returns : goal.returns
unfolding bit below
returns c = mixed_other 3 (λ e. omega arith) (omega arith) (mixes_by 3 _ _ _ _ _ c.rotate_either-2.ensures c.mix_across-2.ensures refl refl)
