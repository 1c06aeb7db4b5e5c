-- `skip` finds where an expression ends. The loop's invariant: the expressions still ahead end where the whole does. The measure
-- is what is left of the sheet.
use Prim.Native.Nat.{◌-◌}
use lib.ListN.{length}
use Rattle.sheet_walk.specs.Skips.{Readable}
use Rattle.sheet_walk.proofs.Skipping.{Ahead}
use Rattle.sheet_walk.proofs.skip.Given as goal

abbrev pub invariant-loop-pending : goal.invariant-loop-pending
invariant-loop-pending l =
    (p : Readable l.sheet l.fn.here.at l.fn.here.cell) → Ahead l.sheet l.next l.count l.pending p.next p.count

abbrev pub decreases-loop-pending : goal.decreases-loop-pending
decreases-loop-pending l = length l.sheet - l.next
