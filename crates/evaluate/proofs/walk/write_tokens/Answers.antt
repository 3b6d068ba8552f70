use Rattle.evaluate.proofs.WalkLaws.{walk_turns}
use Rattle.evaluate.proofs.walk.write_tokens.Goals as goal

pub bounds-material-2 : goal.bounds-material-2
bounds-material-2 c = search walk_turns

pub loop-k-init : goal.loop-k-init
loop-k-init c = search walk_turns

pub gate_at-requires : goal.gate_at-requires
gate_at-requires c = (search walk_turns, search walk_turns)

pub write_token-s-requires-clause-token_start : goal.write_token-s-requires-clause-token_start
write_token-s-requires-clause-token_start c = search walk_turns

pub write_token-s-requires-clause-few_calls : goal.write_token-s-requires-clause-few_calls
write_token-s-requires-clause-few_calls c = search walk_turns

pub loop-k-preserved : goal.loop-k-preserved
loop-k-preserved c = search walk_turns

pub returns : goal.returns
returns c = search walk_turns
