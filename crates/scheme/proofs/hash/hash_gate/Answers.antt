use borrow.Author.Rules.{rules}
use Rattle.scheme.proofs.PieceLaws.{gate_rekeyed, gate_fixed}
use Rattle.scheme.proofs.hash.hash_gate.Goals as goal

pub returns-then-scheme-eq4 : goal.returns-then-scheme-eq4
returns-then-scheme-eq4 c = gate_rekeyed _ _ _ _ _ _ _ _ c.xor-x.ensures c.xor-y.ensures (search rules) c.rekeyed_four.ensures

pub returns : goal.returns
returns c = gate_fixed _ _ _ _ _ _ _ _ c.xor-x.ensures c.xor-y.ensures (search rules) c.fixed_four.ensures
