use Rattle.garble.proofs.LastLaws.{colours_cases, colours_end}
use borrow.Author.Rules.{rules}
use Rattle.garble.proofs.last.write_colours.Goals as goal

pub loop-i-init : goal.loop-i-init
loop-i-init c = search colours_cases

pub output_wire-requires : goal.output_wire-requires
output_wire-requires c = search (colours_cases, rules)

pub wire_token-requires-clause-wire_low : goal.wire_token-requires-clause-wire_low
wire_token-requires-clause-wire_low c = search (colours_cases, rules)

pub wire_token-requires-clause-wire_high : goal.wire_token-requires-clause-wire_high
wire_token-requires-clause-wire_high c = search (colours_cases, rules)

pub loop-i-preserved : goal.loop-i-preserved
loop-i-preserved c = search colours_cases

pub returns : goal.returns
returns c = colours_end _ _ _ _ _ c.requires _ _ c.loop-i.invariant (search rules)
