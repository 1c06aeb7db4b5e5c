-- `place_all` meets its contract. The loop's invariant: the positions passed are filled with wires whose depths are noted, and every other
-- wire is in the queue.
use Prim.Native.Nat.{ℕ, ◌≤◌}
use mathlib.Core.Path.{◌≡◌}
use mathlib.Core.List.{List}
use lib.ListN.{length}
use Rattle.sheet_expressions.specs.Map.{EachHoldsJust}
use Rattle.maker.specs.Placing.{noted}
use Rattle.maker.proofs.Steps.{Turn}
use Rattle.maker.proofs.placing.place_all.Given as goal

abbrev pub invariant-loop-p : goal.invariant-loop-p
invariant-loop-p l =
    (length l.order ≡ length l.initial.order) × (length l.waiting ≡ length l.initial.waiting)
    × (length l.depths ≡ length l.initial.depths) × ((w : ℕ) → noted l.depths w ≤ l.p)
    × ((reads_of : ℕ → List ℕ) → EachHoldsJust l.reads l.wires reads_of
    → Turn reads_of l.wires l.order l.placed.bits l.ready.bits l.waiting l.depths l.depth l.p)
