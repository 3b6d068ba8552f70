use Rattle.model.proofs.Verdicts.{passed}
use Rattle.evaluate.proofs.KnownLaws.{known_turned, known_done}
use Rattle.evaluate.proofs.hashes.decode_hashes.Goals as goal

pub returns-in_err-search_unknown : goal.returns-in_err-search_unknown
returns-in_err-search_unknown c = rw (passed _ _ c.from_residual.ensures.1) (search (known_turned, c.in_err-search_unknown.was))

pub returns : goal.returns
returns c = search (known_done, c.in_ok-search_unknown.was)
