use mathlib.Core.Path.{◌∙◌}
use native.Mathlib.Omega.{arith}
use Rattle.planes.specs.Lanes.{planes_of}
use Rattle.planes.proofs.Halves.{unpacks}
use Rattle.planes.proofs.packing.unpack.Goals as goal

pub returns : goal.returns
unfolding planes_of
returns c = let g = c.gather-w.ensures in record {
  is_a = c.whole-a.ensures ∙ unpacks _ _ g 0 (omega arith);
  is_b = c.whole-b.ensures ∙ unpacks _ _ g 1 (omega arith);
  is_c = c.whole-c.ensures ∙ unpacks _ _ g 2 (omega arith);
  is_d = c.whole-d.ensures ∙ unpacks _ _ g 3 (omega arith);
}
