use mathlib.Core.Path.{◌∙◌}
use borrow.Author.Rules.{rules}
use Rattle.aes.proofs.WordLaws.{word_read, key_start, key_turn, temp_made, temp_kept, made, expand_start, expand_turn, expand_end}
use Rattle.aes.proofs.schedule.expand_key.Goals as goal
use Rattle.aes.proofs.schedule.expand_key.Goals.{then-i-eq0, else-i-eq0}

pub loop-i-init : goal.loop-i-init
loop-i-init g c = key_start (search rules)

pub loop-i-preserved : goal.loop-i-preserved
loop-i-preserved g c = key_turn (search rules) c.loop-i.invariant c.put_word-w.ensures (word_read c.args.key.bytes c.loop-i.i) (search rules) (search rules)

pub loop-i-2-init : goal.loop-i-2-init
loop-i-2-init g c = expand_start c.loop-i.invariant

pub loop-i-2-preserved : goal.loop-i-2-preserved
loop-i-2-preserved g c = let w = c.loop-i-2.w in let i = c.loop-i-2.i in expand_turn c.loop-i-2.invariant c.put_word-w-in-loop-i-2.ensures
    (made w i
    (elim c.if-i-eq0.branch [
      | then-i-eq0 a ↦ temp_made w i c.word-temp.ensures a.if-i-eq0.true a.rot_word.ensures a.sub_word.ensures a.round_constant.ensures (a.temp-is ∙ a.xor_word-temp.ensures)
      | else-i-eq0 a ↦ temp_kept w i (a.temp-is ∙ c.word-temp.ensures) a.if-i-eq0.false
    ])
    c.word.ensures c.xor_word.ensures)
    (search rules) (search rules)

pub returns : goal.returns
returns g c = expand_end (search rules) c.loop-i.invariant (search rules) c.loop-i-2.invariant (search rules)
