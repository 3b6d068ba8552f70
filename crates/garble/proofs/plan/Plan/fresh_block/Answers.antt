use Rattle.garble.proofs.HeldLaws.{fresh_taken}
use Rattle.garble.proofs.plan.Plan.fresh_block.Goals as goal

pub returns : goal.returns
returns c = fresh_taken _ _ _ _ _ (c.make.ensures _ c.args.self.now.seed.is_seed)
