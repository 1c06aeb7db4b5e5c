-- `close` meets its contract. The loop's invariant: the rows hold what leads to what through the wires that were let in.
use Prim.Native.Nat.{ℕ}
use mathlib.Core.Path.{◌≡◌}
use mathlib.Core.Bool.{Bool}
use lib.ListN.{length}
use Rattle.closure.specs.Closures.{through, Rows}
use Rattle.closure.proofs.close.Given as goal

abbrev pub invariant-loop-k : goal.invariant-loop-k
invariant-loop-k l =
    (length l.rows ≡ length l.initial.rows)
    × ((test : ℕ → ℕ → Bool) → Rows test l.count l.initial.rows → Rows (through test l.k) l.count l.rows)
