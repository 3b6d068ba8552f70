use borrow.Author.Rules.{rules}
use mathlib.Core.Path.{refl}
use Rattle.garble.proofs.RecordLaws.{rows_start, rows_turn, rows_end}
use Rattle.garble.proofs.records.write_record.Goals as goal

pub loop-i-init : goal.loop-i-init
loop-i-init c = rows_start _ _ _

pub loop-i-preserved : goal.loop-i-preserved
loop-i-preserved c = rows_turn _ _ _ _ c.args.stored _ c.loop-i.invariant (search rules) (search rules) (search rules) _ refl c.write_row.ensures.1 _ c.write_row.ensures.0

pub returns : goal.returns
returns c = rows_end _ _ _ _ _ _ c.requires c.write_record_head.ensures _ _ c.loop-i.invariant (search rules)
