-- `let_in` meets its contract. The loop's invariant: the rows behind have let the wire in.
use mathlib.Core.Path.{◌≡◌}
use lib.ListN.{length}
use Rattle.closure.proofs.Turns.{Turned}
use Rattle.closure.proofs.let_in.Given as goal

abbrev pub invariant-loop-v : goal.invariant-loop-v
invariant-loop-v l = (length l.rows ≡ length l.initial.rows) × Turned l.initial.rows l.k l.own.bits l.v l.rows
