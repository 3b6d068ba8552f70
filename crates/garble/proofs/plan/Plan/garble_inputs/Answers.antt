use borrow.Author.Rules.{rules}
use Rattle.garble.proofs.InputLaws.{inputs_start, room_zeros, room_ones, inputs_turn, inputs_end}
use Rattle.garble.proofs.plan.Plan.garble_inputs.Goals as goal

pub loop-i-init : goal.loop-i-init
loop-i-init c = inputs_start _ _ _ _ (c.new-held.ensures.0 _ c.args.self.now.seed.is_seed)

pub store-requires : goal.store-requires
store-requires c = search room_zeros

pub store-requires-in-loop-i : goal.store-requires-in-loop-i
store-requires-in-loop-i c = search room_ones

pub loop-i-preserved : goal.loop-i-preserved
loop-i-preserved c = inputs_turn _ _ _ c.requires _ _ _ _ c.loop-i.invariant (search rules) _ _ (c.take-zero.ensures _ c.args.self.now.seed.is_seed c.loop-i.invariant.held_is) _ _ _
    c.store.ensures c.xor.ensures c.store-in-loop-i.ensures

pub returns : goal.returns
returns c = search inputs_end
