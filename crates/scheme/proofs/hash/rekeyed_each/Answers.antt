use borrow.Author.Rules.{rules}
use Rattle.scheme.proofs.PieceLaws.{rekeyed_is}
use Rattle.scheme.proofs.hash.rekeyed_each.Goals as goal

pub returns : goal.returns
returns c = record {
  is_x = rekeyed_is _ _ _ _ _ _ c.of_number.ensures c.sigma-k.ensures c.encrypt_each_under-p.ensures.0 c.xor-x.ensures;
  is_y = rekeyed_is _ _ _ _ _ _ c.of_number-2.ensures c.sigma-l.ensures c.encrypt_each_under-p.ensures.1 c.xor-y.ensures;
  is_calls = search rules;
}
