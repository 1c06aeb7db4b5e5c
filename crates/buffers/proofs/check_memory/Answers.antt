-- `check_memory` meets its contract: the length, then the lowest cell that is not valid.
use Prim.Native.Nat.{◌*◌}
use mathlib.Core.Path.{◌≡◌, sym, ap, ◌∙◌}
use native.Mathlib.Omega.{arith}
use lib.ListN.{length}
use Rattle.sheet.specs.Outcomes.{lowest}
use Rattle.sheet.specs.Memory.{invalid_at, memory_of}
use Rattle.buffers.proofs.Tests.{length-off, place_wrong, none_wrong}
use Rattle.buffers.proofs.check_memory.Goals as goal

pub returns-then-memory-cells : goal.returns-then-memory-cells
unfolding memory_of
returns-then-memory-cells c fs e =
    rw c.at.ensures
    (length-off _ _ _ _ _ _ _ (λ h. c.if-memory-cells.true (h ∙ ap (λ n. 5 * n) e.counted)))

pub returns-then-cell-cells : goal.returns-then-cell-cells
unfolding memory_of
returns-then-cell-cells c fs e =
    let a = c.args in
    -- the memory has its length, and the search went over all cells
    let fits : length a.memory.now ≡ 5 * length fs = c.if-memory-cells.false ∙ ap (λ n. 5 * n) (sym e.counted) in
    let found : c.first_invalid-cell.result ≡ lowest (invalid_at fs a.memory.now) (length fs)
    = c.first_invalid-cell.ensures fs e ∙ ap (lowest (invalid_at fs a.memory.now)) (sym e.counted) in
    rw c.at-then-cell-cells.ensures
    (place_wrong _ _ _ _ _ _ _ _ fits found (omega (arith, c.if-cell-cells.true, e.counted)))

pub returns : goal.returns
unfolding memory_of
returns c fs e =
    let a = c.args in
    -- the memory has its length, and the search went over all cells
    let fits : length a.memory.now ≡ 5 * length fs = c.if-memory-cells.false ∙ ap (λ n. 5 * n) (sym e.counted) in
    let found : c.first_invalid-cell.result ≡ lowest (invalid_at fs a.memory.now) (length fs)
    = c.first_invalid-cell.ensures fs e ∙ ap (lowest (invalid_at fs a.memory.now)) (sym e.counted) in
    none_wrong _ _ _ _ _ _ _ _ fits found
    (omega (arith, c.if-cell-cells.false, e.counted))
