use borrow.Author.Rules.{rules}
use Rattle.garble.proofs.LastLaws.{hashes_cases, hashes_turn}
use Rattle.garble.proofs.last.write_hashes.Goals as goal

pub loop-i-init : goal.loop-i-init
loop-i-init c = search hashes_cases

pub output_wire-requires : goal.output_wire-requires
output_wire-requires c = search (hashes_cases, rules)

pub wire_token-x-requires-clause-wire_low : goal.wire_token-x-requires-clause-wire_low
wire_token-x-requires-clause-wire_low c = search (hashes_cases, rules)

pub wire_token-x-requires-clause-wire_high : goal.wire_token-x-requires-clause-wire_high
wire_token-x-requires-clause-wire_high c = search (hashes_cases, rules)

pub write_pair-requires-clause-number_bound : goal.write_pair-requires-clause-number_bound
write_pair-requires-clause-number_bound c = search (hashes_cases, rules)

pub write_pair-requires-clause-at_in_bounds : goal.write_pair-requires-clause-at_in_bounds
write_pair-requires-clause-at_in_bounds c = search (hashes_cases, rules)

pub loop-i-preserved : goal.loop-i-preserved
loop-i-preserved c = search hashes_turn

pub returns : goal.returns
returns c = search hashes_cases
