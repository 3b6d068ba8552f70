use borrow.Author.Rules.{rules}
use Rattle.garble.proofs.ClashLaws.{outcome_wipe, outcome_wiped, outcome_done, outcome_cases}
use Rattle.garble.proofs.clash.garble_or_wipe.Goals as goal

pub file_length-length-requires : goal.file_length-length-requires
file_length-length-requires c = search outcome_cases

pub find_clash-requires-clause-bounded : goal.find_clash-requires-clause-bounded
find_clash-requires-clause-bounded c = search outcome_cases

pub find_clash-requires-clause-wanted_in_bounds : goal.find_clash-requires-clause-wanted_in_bounds
find_clash-requires-clause-wanted_in_bounds c = search outcome_cases

pub wipe-requires : goal.wipe-requires
wipe-requires c = outcome_wipe _ _ _ _ _ _ _ c.requires _ _ _ _ c.garble_whole-calls.ensures _ c.file_length-length.ensures

pub returns-in-Err : goal.returns-in-Err
returns-in-Err c = outcome_wiped _ _ _ _ _ _ _ c.requires _ _ _ _ c.garble_whole-calls.ensures _ c.file_length-length.ensures _ c.find_clash.ensures _ c.in-Err.is _ _ _
    c.wipe.ensures

pub returns : goal.returns
returns c = outcome_done _ _ _ _ _ _ _ c.requires _ _ _ _ c.garble_whole-calls.ensures _ c.file_length-length.ensures _ c.find_clash.ensures (search rules)
