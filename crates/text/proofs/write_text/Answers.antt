use borrow.Author.Rules.{rules}
use Rattle.circuit.proofs.AcceptedLaws.{check_outputs, check_charges}
use Rattle.text.proofs.TextLaws.{text_long, text_refused, text_accepted}
use Rattle.text.proofs.write_text.Goals as goal

pub returns-then-input-gt65536 : goal.returns-then-input-gt65536
returns-then-input-gt65536 c = search text_long

pub write_lengths-requires : goal.write_lengths-requires
write_lengths-requires c = (search rules, search check_outputs, search check_charges)

pub returns-in-Err : goal.returns-in-Err
returns-in-Err c = search text_refused

pub returns-in-Ok : goal.returns-in-Ok
returns-in-Ok c = search text_accepted
