use lib.ListN.{get_or}
use borrow.Author.Rules.{rules}
use Rattle.model.specs.Aes.{s_box, sub_word}
use Rattle.aes.proofs.Joined.{tabled}
use Rattle.aes.proofs.substitution.SBoxSubWord.sub_word.Goals as goal

pub returns : goal.returns
unfolding sub_word
returns c = let made = c.map.ensures.items in
    tabled 4 (λ i. s_box (get_or c.args.x i 0)) _ made.long (λ i h. let called = made.at i 0 0 h in search (rules, called))
