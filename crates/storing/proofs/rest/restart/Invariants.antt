-- `restart` meets its contract. The loop's invariant: the cells that are still ahead, put from `count` on, make what the whole makes.
use Prim.Native.Nat.{◌-◌, ◌*◌}
use mathlib.Core.Path.{◌≡◌}
use lib.ListN.{length}
use lib.Seq.{sets}
use Rattle.sheet.specs.Expressions.{cell_forms}
use Rattle.sheet_cells.proofs.Starting.{start_bytes}
use Rattle.storing.specs.Advances.{Room}
use Rattle.storing.proofs.Anew.{Left}
use Rattle.storing.proofs.rest.restart.Given as goal

abbrev pub invariant-loop-pending : goal.invariant-loop-pending
invariant-loop-pending l =
    (length l.memory ≡ length l.initial.memory)
    × ((p : Room l.sheet (length l.initial.memory) l.fn.here)
    → Left l.sheet l.next l.count l.pending l.memory p.place.next p.place.count
    (sets l.initial.memory (5 * l.fn.here.cell) (start_bytes (cell_forms p.place.tree))))

abbrev pub decreases-loop-pending : goal.decreases-loop-pending
decreases-loop-pending l = length l.sheet - l.next
