use Rattle.evaluate.proofs.WalkLaws.{charged_done}
use Rattle.evaluate.proofs.walk.write_charged.Goals as goal

-- the gate's token has room in the buffer
pub store-requires : goal.store-requires
store-requires c = c.requires.operands.token_room

pub returns : goal.returns
returns c = charged_done _ _ _ _ _ c.load-b.ensures _ _ c.load-a.ensures _ _ _ c.requires.code_value _
    c.store.ensures c.open_charged-made.ensures
