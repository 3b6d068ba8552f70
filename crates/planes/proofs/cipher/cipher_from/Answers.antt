use native.Mathlib.Omega.{arith}
use borrow.Author.Rules.{rules}
use Rattle.planes.proofs.Rounds.{through_start, through_turn, ciphers}
use Rattle.planes.proofs.cipher.cipher_from.Goals as goal

pub loop-i-init : goal.loop-i-init
loop-i-init c = through_start (search rules) (search rules)

pub loop-i-preserved : goal.loop-i-preserved
loop-i-preserved c = through_turn c.loop-i.invariant (omega arith) c.sub_bytes.ensures c.mix_columns.ensures c.add_round_key-s-in-loop-i.ensures

pub returns : goal.returns
returns c = ciphers _ _ _ c.pack.ensures c.add_round_key-s.ensures c.loop-i.invariant (omega arith) c.unpack.ensures
