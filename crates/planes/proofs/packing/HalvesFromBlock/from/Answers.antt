use borrow.Author.Rules.{rules}
use Rattle.planes.proofs.Halves.{gathered}
use Rattle.planes.proofs.packing.HalvesFromBlock.from.Goals as goal

pub returns : goal.returns
returns c = gathered _ _ _ (search rules) (search rules) c.from_le_bytes.ensures c.from_le_bytes-2.ensures
