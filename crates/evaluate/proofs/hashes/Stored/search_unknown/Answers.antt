use borrow.Author.Rules.{rules}
use Rattle.model.proofs.Verdicts.{searched}
use Rattle.evaluate.proofs.KnownLaws.{token_cases}
use Rattle.evaluate.proofs.hashes.Stored.search_unknown.Goals as goal

pub returns-then-unknown_together-eq0 : goal.returns-then-unknown_together-eq0
returns-then-unknown_together-eq0 c = c.unknown_together.ensures (search rules)

pub loop-i-init : goal.loop-i-init
loop-i-init c = search (searched, token_cases)

pub returns-then-d-ne0 : goal.returns-then-d-ne0
returns-then-d-ne0 c = search (searched, token_cases)

pub loop-i-preserved : goal.loop-i-preserved
loop-i-preserved c = search (searched, token_cases)

pub returns : goal.returns
returns c = search (searched, token_cases)
