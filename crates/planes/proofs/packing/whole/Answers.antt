use mathlib.Core.Path.{◌∙◌}
use Rattle.planes.proofs.Halves.{std_bytes, two_halves}
use Rattle.planes.proofs.packing.whole.Goals as goal

pub returns : goal.returns
returns c = two_halves _ _ _ _ (c.to_le_bytes-s.ensures ∙ std_bytes _) (c.to_le_bytes-t.ensures ∙ std_bytes _)
