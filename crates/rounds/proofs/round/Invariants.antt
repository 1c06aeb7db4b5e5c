-- `round` meets its contract. The loop's invariant: the wires that are not left have their new values, and the words still hold the old ones.
use Rattle.rounds.specs.Running.{BeforeOn}
use Rattle.rounds.proofs.Rounding.{Midway}
use Rattle.rounds.proofs.round.Given as goal

abbrev pub invariant-loop-w : goal.invariant-loop-w
invariant-loop-w l =
    (b : BeforeOn l.instant l.before.bits l.fn.due.bits l.initial.words) → Midway b l.w-iterator.iter.left.bits l.grown.bits l.words
