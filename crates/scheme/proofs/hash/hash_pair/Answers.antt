use borrow.Author.Rules.{rules}
use Rattle.scheme.proofs.PieceLaws.{hash_is}
use Rattle.scheme.proofs.hash.hash_pair.Goals as goal

pub returns : goal.returns
returns c = record {
  is_x = hash_is _ _ _ _ _ c.hash_block-k.ensures c.permute_pair-p.ensures.0 c.xor-x.ensures;
  is_y = hash_is _ _ _ _ _ c.hash_block-l.ensures c.permute_pair-p.ensures.1 c.xor-y.ensures;
  is_calls = search rules;
}
