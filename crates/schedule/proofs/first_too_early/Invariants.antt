-- `first_too_early` finds the first position that check 19 refuses. The loop's invariant: the positions passed are not refused, and
-- the set holds just their entries.
use Prim.Native.Nat.{ℕ, ◌<◌}
use mathlib.Core.Path.{◌≡◌}
use mathlib.Core.Bool.{false}
use mathlib.Core.List.{List}
use Rattle.kernel.specs.Schedules.{too_early}
use Rattle.sheet_expressions.specs.Map.{EachHoldsJust}
use Rattle.schedule.proofs.Ordering.{Holds}
use Rattle.schedule.proofs.first_too_early.Given as goal

abbrev pub invariant-loop-p : goal.invariant-loop-p
invariant-loop-p l =
    Holds l.list l.p l.named.bits
    × ((reads_of : ℕ → List ℕ) → EachHoldsJust l.reads l.wires reads_of → (j : ℕ) → j < l.p
    → too_early l.list reads_of j ≡ false)
