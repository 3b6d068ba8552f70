use Rattle.std.specs.Prelude.{◌≡◌}
use Rattle.model.specs.Ending.{hashes}
use Rattle.model.specs.Refusals.{fine, first_of}
use Rattle.garble.specs.Clash.{pair_verdict}
use Rattle.garble.proofs.clash.search_clash.Given as goal

abbrev pub invariant-loop-i : goal.invariant-loop-i
invariant-loop-i l = first_of (pair_verdict hashes l.material l.at) l.i ≡ fine
