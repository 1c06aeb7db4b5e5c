-- `first_not_new` finds the first position that check 18 refuses. The loop's invariant: the positions passed are new, and the set
-- holds just their entries.
use Prim.Native.Nat.{ℕ, ◌<◌}
use mathlib.Core.Path.{◌≡◌}
use mathlib.Core.Bool.{false}
use Rattle.kernel.specs.Schedules.{not_new}
use Rattle.schedule.proofs.Ordering.{Holds}
use Rattle.schedule.proofs.first_not_new.Given as goal

abbrev pub invariant-loop-p : goal.invariant-loop-p
invariant-loop-p l = Holds l.list l.p l.named.bits × ((j : ℕ) → j < l.p → not_new l.list l.wires j ≡ false)
