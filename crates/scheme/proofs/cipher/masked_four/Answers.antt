use Rattle.scheme.proofs.PieceLaws.{masked_is}
use Rattle.scheme.proofs.cipher.masked_four.Goals as goal

pub returns : goal.returns
returns c ws is_k = let of_p = c.encrypt_four-p.ensures ws is_k in
    record {
      is_a = masked_is _ _ _ _ c.xor.ensures of_p.is_a;
      is_b = masked_is _ _ _ _ c.xor-2.ensures of_p.is_b;
      is_c = masked_is _ _ _ _ c.xor-3.ensures of_p.is_c;
      is_d = masked_is _ _ _ _ c.xor-4.ensures of_p.is_d;
    }
