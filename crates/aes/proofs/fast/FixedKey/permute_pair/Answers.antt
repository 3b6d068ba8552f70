use Rattle.aes.proofs.Rounds.{by_fixed_key}
use Rattle.aes.proofs.fast.FixedKey.permute_pair.Goals as goal

pub returns : goal.returns
returns c = (by_fixed_key _ _ _ c.encrypt_pair.ensures.0 c.args.self.now.is_fixed, by_fixed_key _ _ _ c.encrypt_pair.ensures.1 c.args.self.now.is_fixed)
