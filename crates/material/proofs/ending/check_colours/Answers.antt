use borrow.Author.Rules.{rules}
use Rattle.material.proofs.EndingLaws.{bytes_searched}
use Rattle.material.proofs.ending.check_colours.Goals as goal

pub returns : goal.returns
returns c = bytes_searched _ _ _ c.requires _ c.search_values.ensures _ (λ f e h. search rules) _ c.map_err.ensures.cases
