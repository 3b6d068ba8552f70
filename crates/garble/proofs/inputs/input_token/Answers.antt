use Rattle.garble.proofs.EncodeLaws.{token_chosen}
use Rattle.garble.proofs.inputs.input_token.Goals as goal

pub returns : goal.returns
returns c = token_chosen _ _ _ _ _ _ _ _ _ c.args.value.is_bit c.requires c.load-x.ensures c.load-y.ensures c.xor.ensures c.times.ensures c.xor-2.ensures
