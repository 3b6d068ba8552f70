use borrow.Author.Rules.{rules}
use Rattle.garble.proofs.PickLaws.{pick_cases, picked_zero, picked_one, picked_none}
use Rattle.garble.proofs.pick.Goals as goal

pub returns-then-is_err : goal.returns-then-is_err
returns-then-is_err c = picked_none _ _ _ _ _ c.pick_check.ensures _ c.is_err.ensures.value c.if-is_err.true _ (search rules)

pub overflow_sub-at : goal.overflow_sub-at
overflow_sub-at c = search pick_cases

pub slice_bounds-result-end-then-value-eq0 : goal.slice_bounds-result-end-then-value-eq0
slice_bounds-result-end-then-value-eq0 c = search pick_cases

pub slice_bounds-result-end-else-value-eq0 : goal.slice_bounds-result-end-else-value-eq0
slice_bounds-result-end-else-value-eq0 c = search pick_cases

-- each of the law's facts at its place: the last two are the part's place and its bytes, as the code made it
pub returns-then-value-eq0 : goal.returns-then-value-eq0
returns-then-value-eq0 c =
    picked_zero _ _ _ _ _ c.pick_check.ensures _ c.is_err.ensures.value c.if-is_err.false _ c.if-value-eq0.true (search rules) (search rules)

pub returns-else-value-eq0 : goal.returns-else-value-eq0
returns-else-value-eq0 c =
    picked_one _ _ _ _ _ c.pick_check.ensures _ c.is_err.ensures.value c.if-is_err.false _ c.if-value-eq0.false (search rules) (search rules)
