use Rattle.circuit.proofs.CodeLaws.{bits_are, bits_small}
use Rattle.circuit.proofs.code.code_bits.Goals as goal

pub returns : goal.returns
returns c = search (bits_are, bits_small)
