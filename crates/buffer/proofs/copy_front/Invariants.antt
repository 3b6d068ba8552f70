use Rattle.model.proofs.Buffers.{Copied}
use Rattle.buffer.proofs.copy_front.Given as goal

abbrev pub invariant-loop-j : goal.invariant-loop-j
invariant-loop-j l = Copied l.src l.initial.dst l.j l.dst
