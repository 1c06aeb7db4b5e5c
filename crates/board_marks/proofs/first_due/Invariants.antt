-- `first_due` meets its contract. The loop's invariant: no sheet at an earlier place in the ring is due.
use Prim.Native.Nat.{ℕ, ◌≤◌, ◌<◌}
use mathlib.Core.Path.{◌≡◌}
use mathlib.Core.Bool.{Bool, false}
use Rattle.board.specs.Marks.{ring_at}
use Rattle.board_marks.specs.Sets.{MarksJust}
use Rattle.board_marks.proofs.first_due.Given as goal

abbrev pub invariant-loop-i : goal.invariant-loop-i
invariant-loop-i l =
    (l.i ≤ l.sheets) × ((due : ℕ → Bool) → MarksJust l.marks.bits l.sheets due → (j : ℕ) → j < l.i → due (ring_at l.sheets l.number j) ≡ false)
