-- `skip` finds where an expression ends. The loop's invariant: the expressions still ahead end where the whole does. The measure
-- is what is left of the sheet.
use native.Mathlib.Omega.{arith}
use mathlib.Core.Path.{ap}
use Rattle.sheet.specs.Kinds.{body_of, cells_of, count_of}
use Rattle.sheet_walk.proofs.Skipping.{one-ahead, step, ended}
use Rattle.sheet_walk.proofs.skip.Goals as goal

pub loop-pending-init : goal.loop-pending-init
loop-pending-init c p = one-ahead p

pub bounds-sheet-next : goal.bounds-sheet-next
bounds-sheet-next c = omega (arith, (step c.loop-pending-test.true (c.loop-pending.invariant c.requires)).whole.ends)

pub of-kind-requires : goal.of-kind-requires
of-kind-requires c = (step c.loop-pending-test.true (c.loop-pending.invariant c.requires)).whole.kind

pub overflow_add-pending : goal.overflow_add-pending
overflow_add-pending c =
    omega (arith, (step c.loop-pending-test.true (c.loop-pending.invariant c.requires)).fits, ap count_of c.of-kind.ensures)

pub overflow_add-count : goal.overflow_add-count
overflow_add-count c =
    omega (arith, (step c.loop-pending-test.true (c.loop-pending.invariant c.requires)).cells, ap cells_of c.of-kind.ensures)

pub overflow_add-next : goal.overflow_add-next
overflow_add-next c =
    omega (arith, (step c.loop-pending-test.true (c.loop-pending.invariant c.requires)).whole.ends, ap body_of c.of-kind.ensures)

pub overflow_add-next-in-loop-pending : goal.overflow_add-next-in-loop-pending
overflow_add-next-in-loop-pending c =
    omega (arith, (step c.loop-pending-test.true (c.loop-pending.invariant c.requires)).whole.ends, ap body_of c.of-kind.ensures)

pub loop-pending-smaller : goal.loop-pending-smaller
loop-pending-smaller c =
    omega (arith, (step c.loop-pending-test.true (c.loop-pending.invariant c.requires)).whole.ends, ap body_of c.of-kind.ensures)

pub loop-pending-preserved : goal.loop-pending-preserved
loop-pending-preserved c p =
    rw (c.body.ensures, c.cells-count.ensures, c.operands.ensures, c.of-kind.ensures)
    (step c.loop-pending-test.true (c.loop-pending.invariant p)).rest

pub returns : goal.returns
returns c p = ended c.loop-pending-test.false (c.loop-pending.invariant p)
