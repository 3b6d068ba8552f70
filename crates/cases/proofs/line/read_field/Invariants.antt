use Rattle.std.proofs.Common.{◌≤◌, length}
use Rattle.cases.proofs.line.read_field.Given as goal

abbrev pub invariant-loop-high : goal.invariant-loop-high
invariant-loop-high l = l.len ≤ length l.buffer
