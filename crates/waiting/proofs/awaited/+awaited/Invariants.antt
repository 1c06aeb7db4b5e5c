-- `awaited` meets its contract. The loop's invariant: what was found and what the operands ahead wait for is what the whole waits for.
-- The level falls from an expression to its operands.
use Prim.Native.Nat.{ℕ, ◌-◌}
use Rattle.expression.specs.Places.{Placement}
use Rattle.waiting.proofs.Walking.{Left}
use Rattle.waiting.proofs.awaited.+awaited.Given as goal

abbrev pub decreases-awaited : goal.decreases-awaited
decreases-awaited l = l.level

abbrev pub invariant-loop-passed : goal.invariant-loop-passed
invariant-loop-passed l =
    (asked : ℕ)
    (p : Placement l.basis.sheet.now l.basis.memory.now l.basis.words.now l.basis.known.bits l.level asked l.fn.here.at l.fn.here.cell)
    → Left p l.fresh l.counted.fresh l.found.bits l.next.at l.next.cell (l.counted.operands - l._passed) l.counted.rest
