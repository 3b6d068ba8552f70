use Rattle.evaluate.proofs.KnownLaws.{marked_cases}
use Rattle.evaluate.proofs.last.decode_bits.Goals as goal

pub returns-then-is_hashed : goal.returns-then-is_hashed
returns-then-is_hashed c = search marked_cases

pub returns : goal.returns
returns c = search marked_cases
