use Rattle.garble.proofs.StepLaws.{step_cases, step_next, step_charged, step_free}
use Rattle.garble.proofs.walk.garble_step.Goals as goal

pub garble_charged-calls-requires-clause-charged_start : goal.garble_charged-calls-requires-clause-charged_start
garble_charged-calls-requires-clause-charged_start c = search step_cases

-- the place past the record
pub overflow_add-at : goal.overflow_add-at
overflow_add-at c = step_next _ _ _ _ c.requires.walk_of _ _ _ _ c.requires.step_start

pub returns-in-Charged : goal.returns-in-Charged
returns-in-Charged c = step_charged _ _ _ _ c.requires.walk_of _ _ _ _ c.requires.step_start _ c.read-g.ensures _ c.code_kind.ensures _ c.in-Charged.is _ _ _
    c.garble_charged-calls.ensures

pub returns-in-Free : goal.returns-in-Free
returns-in-Free c = step_free _ _ _ _ c.requires.walk_of _ _ _ _ c.requires.step_start _ c.read-g.ensures _ c.code_kind.ensures _ c.in-Free.is _ _
    c.free_zero.ensures c.store.ensures

pub returns-in-Refused : goal.returns-in-Refused
returns-in-Refused c = search step_cases
