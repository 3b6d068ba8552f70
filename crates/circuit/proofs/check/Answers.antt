use Rattle.model.proofs.Verdicts.{no_passed}
use Rattle.circuit.proofs.CheckLaws.{check_cases, search_inside, search_sum}
use Rattle.circuit.proofs.check.Goals as goal

pub search_gates-requires : goal.search_gates-requires
search_gates-requires c = (search_inside _ _ c.read_header.ensures _ c.in_ok-h.was, search_sum _ _ c.read_header.ensures _ c.in_ok-h.was)

pub search_outputs-requires : goal.search_outputs-requires
search_outputs-requires c = search (check_cases, c.in_ok-h.was)

pub returns-in_err-h : goal.returns-in_err-h
returns-in_err-h c = no_passed _ _ c.from_residual.ensures.1 _ (search (check_cases, c.in_err-h.was))

pub returns-in_err-p : goal.returns-in_err-p
returns-in_err-p c = no_passed _ _ c.from_residual-in_err-p.ensures.1 _ (search (check_cases, c.in_ok-h.was, c.in_err-p.was))

pub returns-in_err-search_outputs : goal.returns-in_err-search_outputs
returns-in_err-search_outputs c =
    no_passed _ _ c.from_residual-in_err-search_outputs.ensures.1 _
    (search (check_cases, c.in_ok-h.was, c.in_ok-p.was, c.in_err-search_outputs.was))

pub returns : goal.returns
returns c = search (check_cases, c.in_ok-h.was, c.in_ok-p.was, c.in_ok-search_outputs.was)
