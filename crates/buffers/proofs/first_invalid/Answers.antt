-- `first_invalid` meets its contract. The loop's invariant: every cell below k is valid.
use mathlib.Core.Path.{refl, ap, ◌∙◌}
use mathlib.Core.Bool.{not}
use native.Mathlib.Omega.{arith}
use borrow.Author.Count.{below_more}
use Rattle.sheet.specs.Laws.Lowest.{lowest-is}
use Rattle.buffers.proofs.Cells.{cell-test}
use Rattle.buffers.proofs.first_invalid.Goals as goal

pub returns-then-not-valid_cell : goal.returns-then-not-valid_cell
returns-then-not-valid_cell c fs e =
    let a = c.args in
    let l = c.loop-k in
    lowest-is _ _ l.k l.auto.k-end
    (λ more. cell-test fs a.forms.now a.memory.now a.cells l.k more e refl c.word_at.ensures c.valid_cell.ensures
    ∙ ap not c.if-not-valid_cell.true) (l.invariant fs e)

pub loop-k-preserved : goal.loop-k-preserved
loop-k-preserved c fs e =
    let a = c.args in
    let l = c.loop-k in
    below_more _ _ (l.invariant fs e)
    (cell-test fs a.forms.now a.memory.now a.cells l.k c.loop-k-test.true e refl c.word_at.ensures c.valid_cell.ensures
    ∙ ap not c.if-not-valid_cell.false)

pub returns : goal.returns
returns c fs e =
    lowest-is _ _ _ (omega arith) (λ more. absurd (omega arith)) (λ j l. c.loop-k.invariant fs e j (omega (arith, c.loop-k-test.false)))
