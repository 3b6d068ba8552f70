use Rattle.circuit.proofs.GateLaws.{gate_read}
use Rattle.circuit.proofs.gates.gate_at.Goals as goal

pub returns : goal.returns
returns c = search gate_read
