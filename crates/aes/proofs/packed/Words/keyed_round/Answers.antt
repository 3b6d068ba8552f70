use Rattle.aes.proofs.Spreads.{round_state}
use Rattle.aes.proofs.packed.Words.keyed_round.Goals as goal

pub returns : goal.returns
returns c = round_state _ c.args.tables.now.is_t_tables _ _ _ _ _ _ c.spread.ensures c.spread-2.ensures c.spread-3.ensures c.spread-4.ensures
