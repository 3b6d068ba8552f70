use Rattle.circuit.proofs.CodeLaws.{takes_fit, takes_free}
use Rattle.circuit.proofs.code.code_takes.Goals as goal

pub overflow_mul-result : goal.overflow_mul-result
overflow_mul-result c = search takes_fit

pub returns : goal.returns
returns c = search takes_free
