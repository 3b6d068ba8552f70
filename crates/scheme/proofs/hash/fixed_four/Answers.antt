use Rattle.scheme.proofs.PieceLaws.{hash_masked}
use Rattle.scheme.proofs.hash.fixed_four.Goals as goal

pub returns : goal.returns
returns c = let m = c.masked_four.ensures _ c.args.fixed.now.is_fixed in
    record {
      is_a = hash_masked _ _ _ _ m.is_a c.hash_block.ensures;
      is_b = hash_masked _ _ _ _ m.is_b c.hash_block-2.ensures;
      is_c = hash_masked _ _ _ _ m.is_c c.hash_block-3.ensures;
      is_d = hash_masked _ _ _ _ m.is_d c.hash_block-4.ensures;
    }
