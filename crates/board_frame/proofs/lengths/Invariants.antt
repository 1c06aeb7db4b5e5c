-- `lengths` meets its contract. The loop's invariant: the sheets below k end within the board, and the next length stands behind them.
use Prim.Native.Nat.{ℕ, ◌≤◌, ◌<◌}
use mathlib.Core.Path.{◌≡◌}
use mathlib.Core.Bool.{false}
use lib.ListN.{length}
use Rattle.board.specs.Boards.{length_place, runs_past}
use Rattle.board_frame.proofs.lengths.Given as goal

abbrev pub invariant-loop-k : goal.invariant-loop-k
invariant-loop-k l =
    (l.k ≤ l.count) × (l.at ≡ length_place l.board l.k) × (l.at ≤ length l.board) × ((j : ℕ) → j < l.k → runs_past l.board j ≡ false)
