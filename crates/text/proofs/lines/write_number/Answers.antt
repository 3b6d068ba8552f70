use Rattle.text.proofs.WriteLaws.{number_room, number_ended}
use Rattle.text.proofs.lines.write_number.Goals as goal

pub write_decimal-past-requires : goal.write_decimal-past-requires
write_decimal-past-requires c = search number_room

pub returns : goal.returns
returns c = search number_ended
