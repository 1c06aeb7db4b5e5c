-- `finish` meets its contract. The loop's invariant: so many rounds were made, each of which changed something, and wires that are not due
-- in the next one would stay as they are.
use Prim.Native.Nat.{◌-◌, ◌≤◌}
use Rattle.wires.specs.Sets.{member, tally}
use Rattle.rounds.specs.Running.{RunningReadsOn}
use Rattle.rounds.proofs.Finishing.{Rounded}
use Rattle.rounds.proofs.finish.Given as goal

abbrev pub invariant-loop-readers : goal.invariant-loop-readers
invariant-loop-readers l =
    (l.rounds ≤ tally (member l.known.bits) 64)
    × ((run : RunningReadsOn l.instant l.reads l.initial.words) → Rounded run l.rounds l.known.bits l.due.bits l.words)

abbrev pub decreases-loop-readers : goal.decreases-loop-readers
decreases-loop-readers l =
    64 - tally (member l.known.bits) 64
