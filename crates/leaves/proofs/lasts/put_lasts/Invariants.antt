-- `put_lasts` meets its contract. The loop's invariant: the words of the kept wires before w are put.
use Rattle.leaves.proofs.Putting.{PutBefore}
use Rattle.leaves.proofs.lasts.put_lasts.Given as goal

abbrev pub invariant-loop-w : goal.invariant-loop-w
invariant-loop-w l = PutBefore l.types l.firsts l.memory l.initial.words l.w l.words
