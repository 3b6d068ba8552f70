use mathlib.Core.Path.{◌∙◌}
use Rattle.garble.proofs.WholeLaws.{whole_front, whole_walk, whole_body, whole_done}
use Rattle.garble.proofs.whole.garble_whole.Goals as goal

pub garble_front-requires : goal.garble_front-requires
garble_front-requires c = whole_front _ _ _ _ _ _ _ c.requires _ _ (c.new-seed.ensures ∙ c.load-key.ensures) c.new-plan.ensures

pub garble_body-requires-clause-walk_of : goal.garble_body-requires-clause-walk_of
garble_body-requires-clause-walk_of c = whole_walk _ _ _ _ _ _ _ c.requires _ _ (c.new-seed.ensures ∙ c.load-key.ensures) c.new-plan.ensures

pub garble_body-requires-clause-body_start : goal.garble_body-requires-clause-body_start
garble_body-requires-clause-body_start c = whole_body _ _ _ _ _ _ _ c.requires _ _ (c.new-seed.ensures ∙ c.load-key.ensures) c.new-plan.ensures _ _ _ c.garble_front.ensures

pub returns : goal.returns
returns c = whole_done _ _ _ _ _ _ _ c.requires _ _ (c.new-seed.ensures ∙ c.load-key.ensures) c.new-plan.ensures _ _ _ c.garble_front.ensures _ _ _ c.garble_body.ensures
