use borrow.Author.Rules.{rules}
use Rattle.circuit.proofs.CodeLaws.{code_known, charge_read}
use Rattle.circuit.proofs.code.used_charge.Goals as goal

pub code_bit-requires : goal.code_bit-requires
code_bit-requires c = search (code_known, rules)

pub returns : goal.returns
returns c = search charge_read
