use Rattle.scheme.proofs.GateLaws.{scheme_cases}
use Rattle.scheme.proofs.garble_gate.Goals as goal

pub returns-in-1 : goal.returns-in-1
returns-in-1 c = search scheme_cases

pub returns-in-2 : goal.returns-in-2
returns-in-2 c = search scheme_cases

pub returns-in_default : goal.returns-in_default
returns-in_default c = search scheme_cases
