use Rattle.scheme.proofs.GateLaws.{gax_garbled}
use Rattle.scheme.proofs.gax.garble_gax.Goals as goal

pub returns : goal.returns
returns c = gax_garbled _ _ _ _ _ c.row.ensures c.row-2.ensures c.row-3.ensures c.row-4.ensures
