-- What check finds of a circuit that it accepts. Document 01, "Circuit".
use Rattle.std.specs.Prelude.{ℕ, ◌+◌, ◌≤◌, ◌≡◌, List}
use Rattle.model.specs.declared.Sizes.{Sizes}
use Rattle.model.specs.Refusals.{fine, circuit_verdict}
use Rattle.model.specs.Operations.{sizes_of}

-- c is an accepted circuit of sizes z
pub record Accepted (c : List ℕ) (z : Sizes) : Type 0 where
  pub accepted : circuit_verdict c ≡ fine
  pub sizes : z ≡ sizes_of c

-- no size is above 65,535, so that no count of bytes overflows
pub record Bounded (z : Sizes) : Type 0 where
  pub wires : z.n + z.q ≤ 65535
  pub outputs : z.m ≤ 65535
  pub charged : z.p ≤ 65535
