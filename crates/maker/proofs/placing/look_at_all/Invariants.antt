-- `look_at_all` meets its contract. The loop's invariant: the wires passed were looked at.
use Prim.Native.Nat.{ℕ}
use mathlib.Core.Path.{◌≡◌}
use mathlib.Core.Bool.{true}
use mathlib.Core.List.{List, []}
use lib.ListN.{length, get_or}
use Rattle.wires.specs.Sets.{member}
use Rattle.sheet_expressions.specs.Map.{EachHoldsJust}
use Rattle.maker.specs.Queue.{Queue}
use Rattle.maker.proofs.Steps.{between}
use Rattle.maker.proofs.placing.look_at_all.Given as goal

abbrev pub invariant-loop-wire : goal.invariant-loop-wire
invariant-loop-wire l =
    (length l.waiting ≡ length l.initial.waiting)
    × ((reads_of : ℕ → List ℕ) → EachHoldsJust l.reads l.wires reads_of → ((v x : ℕ) → member (get_or l.initial.waiting v 0) x ≡ true → ⊥)
    → Queue reads_of l.wires [] (λ x. between l.wire l.wires x ≡ true) l.ready.bits l.waiting)
