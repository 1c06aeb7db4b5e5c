-- `put_raised` meets its contract. The loop's invariant: the bytes passed are put, each of them raised.
use Rattle.join.specs.Joined.{shifted_numbers}
use Rattle.joining.proofs.Putting.{PutSoFar}
use Rattle.joining.proofs.writing.put_raised.Given as goal

abbrev pub invariant-loop-i : goal.invariant-loop-i
invariant-loop-i l = PutSoFar l.initial.joined l.at (shifted_numbers l.raise l.bytes) l.i l.joined
