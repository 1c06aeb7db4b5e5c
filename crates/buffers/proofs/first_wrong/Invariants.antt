-- `first_wrong` meets its contract. The loop's invariant: no entry below i is wrong.
use Prim.Native.Nat.{ℕ, ◌<◌}
use mathlib.Core.Path.{◌≡◌}
use mathlib.Core.Bool.{false}
use mathlib.Core.List.{map}
use Rattle.sheet.specs.Data.{type_of_byte}
use Rattle.sheet.specs.Rows.{wrong_at}
use Rattle.buffers.proofs.first_wrong.Given as goal

abbrev pub invariant-loop-i : goal.invariant-loop-i
invariant-loop-i l = (j : ℕ) → j < l.i → wrong_at (map type_of_byte l.types) l.input j ≡ false
