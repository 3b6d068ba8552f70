use Rattle.evaluate.proofs.GateListLaws.{write_cases}
use Rattle.evaluate.proofs.list.write_list.Goals as goal

pub bounds-material-2 : goal.bounds-material-2
bounds-material-2 c = search write_cases

pub loop-k-init : goal.loop-k-init
loop-k-init c = search write_cases

pub write_token-s-requires-clause-token_start : goal.write_token-s-requires-clause-token_start
write_token-s-requires-clause-token_start c = search write_cases

pub write_token-s-requires-clause-few_calls : goal.write_token-s-requires-clause-few_calls
write_token-s-requires-clause-few_calls c = search write_cases

pub loop-k-preserved : goal.loop-k-preserved
loop-k-preserved c = search write_cases

pub returns : goal.returns
returns c = search write_cases
