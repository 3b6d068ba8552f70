use Rattle.garble.proofs.HeldLaws.{held_from}
use Rattle.garble.proofs.schedule.run_blocks.Goals as goal

pub returns : goal.returns
returns c seed is_seed = let of_four = c.encrypt_four.ensures _ is_seed in
    record {
      is_a = held_from _ _ _ _ _ of_four.is_a c.run_block-a.ensures;
      is_b = held_from _ _ _ _ _ of_four.is_b c.run_block-b.ensures;
      is_c = held_from _ _ _ _ _ of_four.is_c c.run_block-c.ensures;
      is_d = held_from _ _ _ _ _ of_four.is_d c.run_block-d.ensures;
    }
