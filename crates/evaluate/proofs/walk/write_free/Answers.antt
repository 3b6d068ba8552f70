use borrow.Author.Rules.{rules}
use Rattle.evaluate.proofs.WalkLaws.{token_cases}
use Rattle.evaluate.proofs.walk.write_free.Goals as goal

pub overflow_sub-first : goal.overflow_sub-first
overflow_sub-first c = search token_cases

pub load-x-requires : goal.load-x-requires
load-x-requires c = search token_cases

pub free_token-requires : goal.free_token-requires
free_token-requires c = search (token_cases, rules)

pub returns : goal.returns
returns c = search token_cases
