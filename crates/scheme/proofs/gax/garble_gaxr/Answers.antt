use Rattle.scheme.proofs.GateLaws.{gaxr_garbled}
use Rattle.scheme.proofs.gax.garble_gaxr.Goals as goal

pub returns : goal.returns
returns c = gaxr_garbled _ _ _ _ _ _ c.reduced_zero-zero.ensures c.row.ensures c.row-2.ensures c.row-3.ensures
