use Rattle.garble.proofs.ChargedLaws.{make_done}
use Rattle.garble.proofs.gate.GateIn.garbled.Goals as goal

pub returns : goal.returns
returns c = make_done _ _ _ _ _ _ _ c.requires.code_value c.requires.fresh_is c.garble_gate.ensures
