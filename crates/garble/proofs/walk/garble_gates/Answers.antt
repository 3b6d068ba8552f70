use borrow.Author.Rules.{rules}
use Rattle.garble.proofs.HeldLaws.{fresh_other}
use Rattle.garble.proofs.WalkLaws.{walk_start, walk_ahead, walk_calls, walk_turn, walk_cases}
use Rattle.garble.proofs.walk.garble_gates.Goals as goal
use Rattle.garble.proofs.walk.garble_gates.Goals.{then-plan-eq1, else-plan-eq1}

pub loop-k-init : goal.loop-k-init
loop-k-init c = walk_start _ _ _ _ c.requires.walk_of _ _ _ c.requires.gates_start _ (c.new-held.ensures.0 _ c.args.plan.now.seed.is_seed)

pub fresh_block-fresh-requires-clause-held_is : goal.fresh_block-fresh-requires-clause-held_is
fresh_block-fresh-requires-clause-held_is c = c.loop-k.invariant.held_is

pub fresh_block-fresh-requires-clause-gates_room : goal.fresh_block-fresh-requires-clause-gates_room
fresh_block-fresh-requires-clause-gates_room c = walk_ahead _ _ _ _ c.requires.walk_of _ _ _ c.requires.gates_start

-- the block of gate k: by scheme 1 it was taken, and the others have no use for it
pub garble_step-step-requires-clause-fresh_is : goal.garble_step-step-requires-clause-fresh_is
garble_step-step-requires-clause-fresh_is c = elim c.if-plan-eq1.branch [
  | then-plan-eq1 w ↦ rw w.fresh-is w.fresh_block-fresh.ensures.fresh_is
  | else-plan-eq1 w ↦ fresh_other _ _ _ _ _ w.if-plan-eq1.false
]

pub garble_step-step-requires-clause-step_start : goal.garble_step-step-requires-clause-step_start
garble_step-step-requires-clause-step_start c = search (walk_cases, rules)

pub overflow_add-calls : goal.overflow_add-calls
overflow_add-calls c = walk_calls _ _ _ _ c.requires.walk_of _ _ _ c.requires.gates_start _ _ _ _ _ _ c.loop-k.invariant (search rules) _ _ _ _ c.garble_step-step.ensures

pub loop-k-preserved : goal.loop-k-preserved
loop-k-preserved c = walk_turn _ _ _ _ c.requires.walk_of _ _ _ c.requires.gates_start _ _ _ _ _ _ c.loop-k.invariant (search rules) _ _ _ _ c.garble_step-step.ensures _
    (elim c.if-plan-eq1.branch [
      | then-plan-eq1 w ↦ rw w.held-is w.fresh_block-fresh.ensures.held_is
      | else-plan-eq1 w ↦ rw w.held-is c.loop-k.invariant.held_is
    ])

pub returns : goal.returns
returns c = search walk_cases
