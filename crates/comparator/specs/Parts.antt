-- What the functions that write parts of a comparator ask of the width and of the buffer.
use Rattle.std.specs.Prelude.{ℕ, ◌+◌, ◌≤◌, List, length}
use Rattle.comparator.specs.Comparator.{comparator_length}

-- room for four gates at a place; their wires have 16 bits
pub record BitStart (at below : ℕ) (o : List ℕ) : Type 0 where
  pub room : at + 28 ≤ length o
  pub few : below + 3 ≤ 65535

-- a width that is allowed, and room for its circuit
pub record WriteStart (w : ℕ) (o : List ℕ) : Type 0 where
  pub low : 1 ≤ w
  pub high : w ≤ 64
  pub room : comparator_length w ≤ length o
