use Prim.Native.Nat.{◌+◌, ◌*◌, ◌/◌, ◌%◌}
use lib.ListN.{get_or}
use borrow.Author.Rules.{rules}
use Rattle.model.specs.Aes.{shift_rows}
use Rattle.aes.proofs.Joined.{tabled}
use Rattle.aes.proofs.steps.State.shift_rows.Goals as goal

pub returns : goal.returns
unfolding shift_rows
returns c = let made = c.from_fn-bytes.ensures.items in
    tabled 16 (λ i. get_or c.args.self.bytes (i % 4 + 4 * ((i / 4 + i % 4) % 4)) 0) _ made.long (λ i h. let called = made.at i 0 h in search (rules, called))
