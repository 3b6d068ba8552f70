use Rattle.scheme.proofs.GateLaws.{half_garbled}
use Rattle.scheme.proofs.half.garble_half.Goals as goal

pub returns : goal.returns
returns c = half_garbled _ _ _ _ _ c.requires _ _ c.offset_unless-a.ensures c.offset_unless-b.ensures _ c.hash_gate-h.ensures
    _ c.colour.ensures _ c.times.ensures _ _ c.half_row-row_g.ensures c.half_row-row_e.ensures _ c.join-x.ensures _ c.offset_unless-zero.ensures _
