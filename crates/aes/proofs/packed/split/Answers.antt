use mathlib.Core.Path.{◌∙◌}
use Rattle.aes.proofs.Packing.{bytes}
use Rattle.aes.proofs.packed.split.Goals as goal

pub returns : goal.returns
returns c = c.to_le_bytes.ensures ∙ bytes _
