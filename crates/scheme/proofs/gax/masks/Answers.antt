use Rattle.scheme.proofs.PieceLaws.{mask_is}
use Rattle.scheme.specs.Garbled.{site}
use Rattle.scheme.proofs.gax.masks.Goals as goal

pub returns : goal.returns
unfolding site
returns c = let m = c.masked_four.ensures _ c.args.fixed.now.is_fixed in
    record {
      is_00 = mask_is _ _ _ _ _ _ _ m.is_a c.row_key-a.ensures c.doubled-x.ensures c.quadrupled-u.ensures;
      is_01 = mask_is _ _ _ _ _ _ _ m.is_b c.row_key-b.ensures c.doubled-x.ensures c.quadrupled-v.ensures;
      is_10 = mask_is _ _ _ _ _ _ _ m.is_c c.row_key-c.ensures c.doubled-y.ensures c.quadrupled-u.ensures;
      is_11 = mask_is _ _ _ _ _ _ _ m.is_d c.row_key-d.ensures c.doubled-y.ensures c.quadrupled-v.ensures;
    }
