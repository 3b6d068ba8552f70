use native.Mathlib.Omega.{arith}
use Rattle.planes.specs.Lanes.{planes_of}
use Rattle.planes.proofs.Halves.{packs}
use Rattle.planes.proofs.packing.pack.Goals as goal

pub returns : goal.returns
unfolding planes_of
returns c = record {
  is_a = packs _ _ c.spread.ensures 0 (omega arith) _ c.from-a.ensures;
  is_b = packs _ _ c.spread.ensures 1 (omega arith) _ c.from-b.ensures;
  is_c = packs _ _ c.spread.ensures 2 (omega arith) _ c.from-c.ensures;
  is_d = packs _ _ c.spread.ensures 3 (omega arith) _ c.from-d.ensures;
}
