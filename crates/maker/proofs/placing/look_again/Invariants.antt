-- `look_again` meets its contract. The loop's invariant: the wires of the set that were taken out were looked at.
use Prim.Native.Nat.{ℕ}
use mathlib.Core.Path.{◌≡◌}
use mathlib.Core.Bool.{true}
use mathlib.Core.List.{List}
use lib.ListN.{length}
use Rattle.wires.specs.Sets.{member}
use Rattle.sheet_expressions.specs.Map.{HoldsJust, EachHoldsJust}
use Rattle.maker.specs.Queue.{Queue}
use Rattle.maker.proofs.placing.look_again.Given as goal

abbrev pub invariant-loop-wire : goal.invariant-loop-wire
invariant-loop-wire l =
    (length l.waiting ≡ length l.initial.waiting)
    × ((reads_of : ℕ → List ℕ) (n : ℕ) (list : List ℕ) → EachHoldsJust l.reads n reads_of → HoldsJust l.placed.bits list
    → Queue reads_of n list (λ x. member l.initial.wire-iterator.left.bits x ≡ true) l.initial.found.bits l.initial.waiting
    → Queue reads_of n list (λ x. member l.wire-iterator.left.bits x ≡ true) l.found.bits l.waiting)
