use borrow.Author.Rules.{rules}
use Rattle.circuit.proofs.CodeLaws.{four_read}
use Rattle.circuit.proofs.code.four_bits.Goals as goal

pub returns : goal.returns
returns c = search (four_read, rules)
