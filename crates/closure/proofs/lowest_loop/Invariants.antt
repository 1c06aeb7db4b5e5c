-- `lowest_loop` meets its contract: it goes over the closed relation. The loop's invariant: the wires passed do not lead to themselves.
use Prim.Native.Nat.{ℕ, ◌<◌}
use mathlib.Core.Path.{◌≡◌}
use mathlib.Core.Bool.{false}
use lib.ListN.{get_or}
use Rattle.wires.specs.Sets.{member}
use Rattle.closure.proofs.lowest_loop.Given as goal

abbrev pub invariant-loop-w : goal.invariant-loop-w
invariant-loop-w l = ((v : ℕ) → v < l.w → member (get_or l.rows v 0) v ≡ false)
