use Rattle.scheme.proofs.PieceLaws.{row_is}
use Rattle.scheme.specs.Garbled.{site}
use Rattle.scheme.proofs.gax.row.Goals as goal

pub returns : goal.returns
unfolding site
returns c = row_is _ _ _ _ _ _ _ _ _ c.xor-2.ensures c.requires c.xor.ensures c.times.ensures c.value_at-v.ensures
