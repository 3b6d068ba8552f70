use Rattle.aes.proofs.NextKeys.{next_made}
use Rattle.aes.proofs.rekeyed.next_key.Goals as goal

pub returns : goal.returns
returns g c = next_made _ _ _ _ c.rotated.ensures c.sub_packed.ensures
