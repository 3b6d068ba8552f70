use mathlib.Core.Path.{refl}
use Rattle.planes.specs.Circuit.{gate_of, run, picks, sub_gates, sub_outs, sub_circuit}
use Rattle.planes.specs.Lanes.{planes_of}
use Rattle.planes.proofs.sbox.sub_gates.Goals as goal

pub returns : goal.returns
unfolding gate_of run picks sub_gates sub_outs sub_circuit planes_of
returns c = refl
