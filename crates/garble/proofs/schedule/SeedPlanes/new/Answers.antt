use borrow.Author.Rules.{rules}
use Rattle.model.proofs.Expansion.{expansion_only}
use Rattle.garble.proofs.schedule.SeedPlanes.new.Goals as goal

pub invariant_of-result : goal.invariant_of-result
invariant_of-result c = record { is_seed = rw (expansion_only (search rules) c.expand_key.ensures) at c.slice_one.ensures }
