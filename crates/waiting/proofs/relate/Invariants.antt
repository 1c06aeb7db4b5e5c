-- `relate` meets its contract. The loop's invariant: the sets of the wires passed are there.
use mathlib.Core.Path.{◌≡◌}
use lib.ListN.{length}
use Rattle.closure.specs.Closures.{Rows}
use Rattle.rounds.specs.Running.{RunningUnderOn}
use Rattle.waiting.specs.Waiting.{waits_in}
use Rattle.waiting.proofs.relate.Given as goal

abbrev pub invariant-loop-w : goal.invariant-loop-w
invariant-loop-w l =
    (length l.sets ≡ length l.initial.sets) × ((u : RunningUnderOn l.instant l.known.bits l.words) → Rows (waits_in u) l.w l.sets)
