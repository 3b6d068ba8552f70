use Rattle.aes.proofs.FoldedLaws.{folded_round}
use Rattle.aes.proofs.folded.Folded.keyed_round.Goals as goal

pub returns : goal.returns
returns c = folded_round _ c.args.tables.now.is_t_tables _ _ _ _ _ _ _ _ c.from-s.ensures c.two.ensures c.spread.ensures
    c.spread-2.ensures c.spread-3.ensures c.spread-mixed.ensures _ _ c.fold-made.ensures c.fold-key.ensures
