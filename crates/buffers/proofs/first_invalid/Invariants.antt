-- `first_invalid` meets its contract. The loop's invariant: every cell below k is valid.
use Prim.Native.Nat.{ℕ, ◌<◌}
use mathlib.Core.Path.{◌≡◌}
use mathlib.Core.Bool.{false}
use mathlib.Core.List.{List}
use Rattle.sheet.specs.Expressions.{CellForm}
use Rattle.sheet.specs.Memory.{invalid_at}
use Rattle.buffers.specs.Tests.{Formed}
use Rattle.buffers.proofs.first_invalid.Given as goal

abbrev pub invariant-loop-k : goal.invariant-loop-k
invariant-loop-k l =
    (fs : List CellForm) → Formed fs l.forms l.cells → (j : ℕ) → j < l.k → invalid_at fs l.memory j ≡ false
