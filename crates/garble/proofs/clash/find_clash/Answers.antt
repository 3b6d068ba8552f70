use borrow.Author.Rules.{rules}
use Rattle.garble.proofs.ClashLaws.{found_cases}
use Rattle.garble.proofs.clash.find_clash.Goals as goal

pub search_clash-requires : goal.search_clash-requires
search_clash-requires c = search (found_cases, rules)

pub returns-then-wants_hashes : goal.returns-then-wants_hashes
returns-then-wants_hashes c = search found_cases
