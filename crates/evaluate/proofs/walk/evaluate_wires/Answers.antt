use Rattle.evaluate.proofs.WalkLaws.{wires_cases}
use Rattle.evaluate.proofs.walk.evaluate_wires.Goals as goal

pub write_tokens-requires : goal.write_tokens-requires
write_tokens-requires c = search wires_cases

pub returns : goal.returns
returns c = search wires_cases
