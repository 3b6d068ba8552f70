use borrow.Author.Rules.{rules}
use Rattle.garble.proofs.LastLaws.{last_cases}
use Rattle.garble.proofs.last.write_last.Goals as goal

pub write_last_head-requires : goal.write_last_head-requires
write_last_head-requires c = search last_cases

pub overflow_add-at : goal.overflow_add-at
overflow_add-at c = search (last_cases, rules)

pub write_hashes-requires : goal.write_hashes-requires
write_hashes-requires c = search last_cases

pub overflow_mul-result : goal.overflow_mul-result
overflow_mul-result c = search (last_cases, rules)

pub returns-then-hashed : goal.returns-then-hashed
returns-then-hashed c = search last_cases

pub overflow_add-at-2 : goal.overflow_add-at-2
overflow_add-at-2 c = search (last_cases, rules)

pub write_colours-requires : goal.write_colours-requires
write_colours-requires c = search last_cases

pub returns : goal.returns
returns c = search last_cases
