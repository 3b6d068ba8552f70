use lib.ListN.{take}
use Rattle.aes.proofs.WordLaws.{KeyCopied, Expanding}
use Rattle.aes.proofs.schedule.expand_key.Given as goal

abbrev pub invariant-loop-i : goal.invariant-loop-i
invariant-loop-i g l = KeyCopied l.k l.i l.w

-- the key stands in the first 16 bytes
abbrev pub invariant-loop-i-2 : goal.invariant-loop-i-2
invariant-loop-i-2 g l = Expanding (take 16 l.initial.w) l.i l.w
