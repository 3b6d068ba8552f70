use mathlib.Core.Path.{ap, ◌∙◌}
use Rattle.aes.specs.Tables.{state_of}
use Rattle.aes.proofs.NextKeys.{beside_start, beside_turn, beside_byte, beside_end}
use Rattle.aes.proofs.rekeyed.encrypt_each_under.Goals as goal

pub loop-r-init : goal.loop-r-init
loop-r-init c = (beside_start, beside_start)

pub next_constant-rc-requires : goal.next_constant-rc-requires
next_constant-rc-requires c = beside_byte c.loop-r.invariant.0

pub loop-r-preserved : goal.loop-r-preserved
loop-r-preserved c = let more = c.loop-r-test.true in let inv = c.loop-r.invariant in (
  beside_turn inv.0 more c.keyed_round-s.ensures c.next_key-k-in-loop-r.ensures c.next_constant-rc.ensures,
  beside_turn inv.1 more c.keyed_round-t.ensures c.next_key-l-in-loop-r.ensures c.next_constant-rc.ensures,
)

pub returns : goal.returns
returns c = let all = c.loop-r-test.false in (
  beside_end c.from-first.ensures c.next_key-k.ensures c.loop-r.invariant.0 all c.keyed_last-p.ensures
      c.add-s.ensures c.from.ensures,
  beside_end c.from-other.ensures c.next_key-l.ensures c.loop-r.invariant.1 all (rw (← c.from-3.ensures) c.keyed_last-q.ensures)
      (ap state_of c.from-t.ensures ∙ c.add.ensures) c.from-2.ensures,
)
