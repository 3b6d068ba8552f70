use Rattle.garble.proofs.ChargedLaws.{charged_record, charged_done}
use Rattle.garble.proofs.records.garble_charged.Goals as goal

pub write_record-requires : goal.write_record-requires
write_record-requires c = search charged_record

pub returns : goal.returns
returns c = search charged_done
