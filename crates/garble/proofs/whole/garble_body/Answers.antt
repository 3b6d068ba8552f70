use Rattle.garble.proofs.BodyLaws.{body_cases}
use Rattle.garble.proofs.whole.garble_body.Goals as goal

pub last_start-at-requires : goal.last_start-at-requires
last_start-at-requires c = search body_cases

pub write_last-hashes-requires : goal.write_last-hashes-requires
write_last-hashes-requires c = search body_cases

pub overflow_add-result : goal.overflow_add-result
overflow_add-result c = search body_cases

pub returns : goal.returns
returns c = search body_cases
