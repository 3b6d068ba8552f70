use Rattle.scheme.proofs.BitLaws.{row_number}
use Rattle.scheme.proofs.RowLaws.{charged_opens, charged_rooms}
use Rattle.scheme.proofs.rows.open_charged.Goals as goal

pub load-rg-requires : goal.load-rg-requires
load-rg-requires c = search charged_rooms

pub load-re-requires : goal.load-re-requires
load-re-requires c = search charged_rooms

pub returns-then-scheme-ge3 : goal.returns-then-scheme-ge3
returns-then-scheme-ge3 c = search charged_opens

pub held_row-row-requires : goal.held_row-row-requires
held_row-row-requires c = search charged_rooms

pub returns : goal.returns
returns c = search (charged_opens, row_number)
