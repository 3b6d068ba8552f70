use Rattle.aes.proofs.Rounds.{by_fixed_key}
use Rattle.aes.proofs.cipher.permute.Goals as goal

pub returns : goal.returns
returns c = by_fixed_key _ _ _ c.encrypt.ensures c.requires
