-- `restart` meets its contract. The loop's invariant: the cells that are still ahead, put from `count` on, make what the whole makes.
use mathlib.Core.Path.{refl, ap, ◌∙◌}
use native.Mathlib.Omega.{arith}
use Rattle.sheet.specs.Kinds.{body_of, cells_of, count_of}
use Rattle.storing.proofs.Anew.{step, begun, ended}
use Rattle.storing.proofs.rest.restart.Goals as goal

pub loop-pending-init : goal.loop-pending-init
loop-pending-init c = (refl, λ p. begun p.place _)

pub bounds-sheet-next : goal.bounds-sheet-next
bounds-sheet-next c = omega (arith, (step c.loop-pending-test.true (c.loop-pending.invariant.1 c.requires)).met.ends)

pub put_own-requires : goal.put_own-requires
put_own-requires c =
    let s = step c.loop-pending-test.true (c.loop-pending.invariant.1 c.requires) in
    record {
      whole = s.met;
      at_in_bounds = omega (arith, s.room, c.requires.fits, c.loop-pending.invariant.0);
    }

pub of-kind-requires : goal.of-kind-requires
of-kind-requires c = (step c.loop-pending-test.true (c.loop-pending.invariant.1 c.requires)).met.kind

pub overflow_add-pending : goal.overflow_add-pending
overflow_add-pending c = omega (arith, (step c.loop-pending-test.true (c.loop-pending.invariant.1 c.requires)).fits, ap count_of c.of-kind.ensures)

pub overflow_add-count : goal.overflow_add-count
overflow_add-count c = omega (arith, (step c.loop-pending-test.true (c.loop-pending.invariant.1 c.requires)).cells, ap cells_of c.of-kind.ensures)

pub overflow_add-next-in-loop-pending : goal.overflow_add-next-in-loop-pending
overflow_add-next-in-loop-pending c = omega (arith, (step c.loop-pending-test.true (c.loop-pending.invariant.1 c.requires)).met.ends, ap body_of c.of-kind.ensures)

pub loop-pending-smaller : goal.loop-pending-smaller
loop-pending-smaller c = omega (arith, (step c.loop-pending-test.true (c.loop-pending.invariant.1 c.requires)).met.ends, ap body_of c.of-kind.ensures)

pub loop-pending-preserved : goal.loop-pending-preserved
loop-pending-preserved c = (
  c.put_own.auto.memory ∙ c.loop-pending.invariant.0,
  λ p.
      rw (c.body.ensures, c.cells-count.ensures, c.operands.ensures, c.of-kind.ensures, c.put_own.ensures)
      (step c.loop-pending-test.true (c.loop-pending.invariant.1 p)).rest,
)

pub returns : goal.returns
returns c = λ p. ended p.place c.loop-pending-test.false (c.loop-pending.invariant.1 p)
