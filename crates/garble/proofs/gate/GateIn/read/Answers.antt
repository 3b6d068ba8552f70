use native.Mathlib.Omega.{arith}
use Rattle.garble.proofs.OperandLaws.{operand_needs, own_small}
use Rattle.garble.proofs.gate.GateIn.read.Goals as goal

pub gate_at-g-requires : goal.gate_at-g-requires
gate_at-g-requires c = (search operand_needs, search operand_needs)

-- a wire number has 16 bits
pub overflow_cast-result : goal.overflow_cast-result
overflow_cast-result c = omega (arith, own_small _ _ _ _ c.requires)
