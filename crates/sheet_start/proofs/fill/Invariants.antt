-- `fill` meets its contract. The loop's invariant: the starting bytes of the cells from k on, put there, make all of them.
use mathlib.Core.Path.{◌≡◌}
use lib.ListN.{length}
use Rattle.sheet_start.specs.Owners.{Noted}
use Rattle.sheet_start.proofs.Starting.{Makes}
use Rattle.sheet_start.proofs.fill.Given as goal

abbrev pub invariant-loop-k : goal.invariant-loop-k
invariant-loop-k l =
    (length l.memory ≡ length l.initial.memory) × ((p : Noted l.sheet l.cells l.count) → Makes p l.k l.memory)
