use borrow.Author.Rules.{rules}
use Rattle.circuit.proofs.CodeLaws.{bit_read}
use Rattle.circuit.proofs.code.code_bit.Goals as goal

pub returns : goal.returns
returns c = search (bit_read, rules)
