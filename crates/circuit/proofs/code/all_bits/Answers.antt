use Rattle.circuit.proofs.CodeLaws.{sixteen_read}
use Rattle.circuit.proofs.code.all_bits.Goals as goal

pub returns : goal.returns
returns c = search sixteen_read
