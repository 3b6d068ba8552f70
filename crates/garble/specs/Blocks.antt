-- Four of a run's blocks, enciphered under a seed. Document 01, "Tokens"; 02, job 4.
use Rattle.std.specs.Prelude.{ℕ, ◌≡◌, List, get_or}
use Rattle.model.specs.Aes.{Block, aes}
use Rattle.model.specs.Tokens.{run_block}
use Rattle.planes.specs.declared.packing.Four.{Four}

-- r has the seed's blocks of four wires, by the run number
pub record RunBlocks (seed : Block) (run : ℕ) (wires : List ℕ) (r : Four) : Type 0 where
  pub is_a : r.a.bytes ≡ aes seed (run_block run (get_or wires 0 0))
  pub is_b : r.b.bytes ≡ aes seed (run_block run (get_or wires 1 0))
  pub is_c : r.c.bytes ≡ aes seed (run_block run (get_or wires 2 0))
  pub is_d : r.d.bytes ≡ aes seed (run_block run (get_or wires 3 0))
