use borrow.Author.Rules.{rules}
use Rattle.scheme.proofs.PieceLaws.{by_rekeyed, by_fixed}
use Rattle.scheme.proofs.hash.hash_held.Goals as goal

pub returns-then-scheme-ne4 : goal.returns-then-scheme-ne4
returns-then-scheme-ne4 c = by_fixed _ _ _ _ _ _ (search rules) c.hash_pair.ensures

pub returns : goal.returns
returns c = by_rekeyed _ _ _ _ _ _ (search rules) c.rekeyed_each.ensures
