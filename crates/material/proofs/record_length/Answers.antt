use borrow.Author.Rules.{rules}
use Rattle.material.proofs.LengthLaws.{record_made}
use Rattle.material.proofs.record_length.Goals as goal

pub returns : goal.returns
returns c = (search record_made, search rules)
