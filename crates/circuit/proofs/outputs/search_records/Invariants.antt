use Rattle.std.specs.Prelude.{◌≡◌}
use Rattle.model.specs.Refusals.{fine, first_of, output_verdict}
use Rattle.circuit.proofs.outputs.search_records.Given as goal

abbrev pub invariant-loop-k : goal.invariant-loop-k
invariant-loop-k l = first_of (output_verdict l.circuit) l.k ≡ fine
