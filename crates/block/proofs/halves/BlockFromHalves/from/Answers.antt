use mathlib.Core.Path.{refl, ◌∙◌}
use Rattle.model.specs.Bytes.{bytes_of}
use Rattle.block.specs.Halves.{block_of}
use Rattle.block.proofs.Words.{written}
use Rattle.block.proofs.halves.BlockFromHalves.from.Goals as goal

pub returns : goal.returns
unfolding block_of bytes_of
returns c =
    rw (c.to_le_bytes-a.ensures ∙ written _ _ c.swap_bytes.ensures, c.to_le_bytes-b.ensures ∙ written _ _ c.swap_bytes-2.ensures) refl
