use Rattle.aes.proofs.WordLaws.{word_read}
use Rattle.aes.proofs.schedule.word.Goals as goal

pub returns : goal.returns
returns c = let a = c.args in word_read a.w.now a.i
