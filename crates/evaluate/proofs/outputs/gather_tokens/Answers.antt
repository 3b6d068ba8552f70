use borrow.Author.Rules.{rules}
use Rattle.evaluate.proofs.OutputLaws.{gather_turns}
use Rattle.evaluate.proofs.outputs.gather_tokens.Goals as goal

pub loop-i-init : goal.loop-i-init
loop-i-init c = search gather_turns

pub output_wire-w-requires : goal.output_wire-w-requires
output_wire-w-requires c = search gather_turns

pub overflow_sub-w : goal.overflow_sub-w
overflow_sub-w c = search (gather_turns, rules)

pub load-x-requires : goal.load-x-requires
load-x-requires c = search (gather_turns, rules)

pub store-requires : goal.store-requires
store-requires c = search gather_turns

pub loop-i-preserved : goal.loop-i-preserved
loop-i-preserved c = search gather_turns

pub returns : goal.returns
returns c = search gather_turns
