use mathlib.Core.Path.{◌∙◌}
use Rattle.evaluate.proofs.GateListLaws.{passed_cases, passed_lost}
use Rattle.evaluate.proofs.list.row_passed.Goals as goal
use Rattle.evaluate.proofs.list.row_passed.Goals.{then-material-cursor-via-then-material-cursor, then-material-cursor-via-else-material-cursor+then-not-is_row}

pub returns-in_err-cursor : goal.returns-in_err-cursor
returns-in_err-cursor c = c.from_residual.ensures ∙ passed_lost _ _ _ _ _ c.in_err-cursor.was

pub returns-then-x-eq0 : goal.returns-then-x-eq0
returns-then-x-eq0 c = search passed_cases

pub returns-then-material-cursor : goal.returns-then-material-cursor
returns-then-material-cursor c = elim c.then-material-cursor.branch [
  | then-material-cursor-via-then-material-cursor w ↦ search (passed_cases, c.in_ok-cursor.was)
  | then-material-cursor-via-else-material-cursor+then-not-is_row w ↦ search (passed_cases, c.in_ok-cursor.was)
]

pub returns : goal.returns
returns c = search (passed_cases, c.in_ok-cursor.was)
