use Rattle.evaluate.proofs.KnownLaws.{compare_done}
use Rattle.evaluate.proofs.hashes.Stored.compare.Goals as goal

pub returns : goal.returns
returns c = compare_done _ _ _ _ _ _ _ _ c.load-x.ensures c.hash_output-h.ensures.is_x c.load.ensures c.load-2.ensures _
    c.differs-zero.ensures c.differs-one.ensures
