use borrow.Author.Rules.{rules}
use Rattle.model.specs.Ending.{output_tweak}
use Rattle.scheme.proofs.PieceLaws.{hash_masked}
use Rattle.scheme.proofs.hash.hash_output.Goals as goal

pub returns : goal.returns
unfolding output_tweak
returns c = let m = c.masked_four-h.ensures _ c.args.fixed.now.is_fixed in
    record { is_x = hash_masked _ _ _ _ m.is_a c.hash_block-u.ensures; is_y = hash_masked _ _ _ _ m.is_b c.hash_block-v.ensures; is_calls = search rules }
