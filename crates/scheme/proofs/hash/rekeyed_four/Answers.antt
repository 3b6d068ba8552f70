use Rattle.scheme.proofs.PieceLaws.{rekeyed_masked}
use Rattle.scheme.proofs.hash.rekeyed_four.Goals as goal

pub returns : goal.returns
returns c = let m = c.masked_four.ensures _ c.slice_pair-k.ensures in
    record {
      is_a = rekeyed_masked _ _ _ _ _ m.is_a c.sigma.ensures c.of_number.ensures;
      is_b = rekeyed_masked _ _ _ _ _ m.is_b c.sigma-2.ensures c.of_number.ensures;
      is_c = rekeyed_masked _ _ _ _ _ m.is_c c.sigma-3.ensures c.of_number-2.ensures;
      is_d = rekeyed_masked _ _ _ _ _ m.is_d c.sigma-4.ensures c.of_number-2.ensures;
    }
