use native.Mathlib.Omega.{arith}
use Rattle.aes.proofs.Rounds.{rounds_start, rounds_turn, rounds_end, by_fixed_key}
use Rattle.aes.proofs.fast.FixedKey.permute.Goals as goal

pub loop-r-init : goal.loop-r-init
loop-r-init c = rounds_start

pub loop-r-preserved : goal.loop-r-preserved
loop-r-preserved c = rounds_turn c.loop-r.invariant c.round-s.ensures (omega arith)

pub returns : goal.returns
returns c = by_fixed_key _ _ _ (rounds_end c.loop-r.invariant (omega arith) c.last_round.ensures _ c.start-s.ensures) c.args.self.now.is_fixed
