use native.Mathlib.Omega.{arith}
use Rattle.aes.proofs.Rounds.{rounds_start, rounds_turn, rounds_end}
use Rattle.aes.proofs.fast.encrypt_pair.Goals as goal

pub loop-r-init : goal.loop-r-init
loop-r-init c = (rounds_start, rounds_start)

pub loop-r-preserved : goal.loop-r-preserved
loop-r-preserved c = let l = c.loop-r.invariant in (rounds_turn l.0 c.round-s.ensures (omega arith), rounds_turn l.1 c.round-t.ensures (omega arith))

pub returns : goal.returns
returns c = (
  rounds_end c.loop-r.invariant.0 (omega arith) c.last_round-p.ensures _ c.start-s.ensures,
  rounds_end c.loop-r.invariant.1 (omega arith) (rw (← c.from.ensures) c.last_round-q.ensures) _ c.start-t.ensures,
)
