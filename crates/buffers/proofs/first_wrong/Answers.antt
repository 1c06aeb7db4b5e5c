-- `first_wrong` meets its contract. The loop's invariant: no entry below i is wrong.
use mathlib.Core.Path.{ap, ◌∙◌}
use mathlib.Core.Bool.{not}
use native.Mathlib.Omega.{arith}
use borrow.Author.Count.{below_more}
use Rattle.sheet.specs.Laws.Lowest.{lowest-is}
use Rattle.buffers.proofs.Cells.{entry-test}
use Rattle.buffers.proofs.first_wrong.Goals as goal

pub returns-then-not-stands_for : goal.returns-then-not-stands_for
returns-then-not-stands_for c =
    let a = c.args in
    let l = c.loop-i in
    lowest-is _ _ l.i l.auto.i-end
    (λ more. entry-test a.types.now a.input.now l.i more c.word_at.ensures c.stands_for.ensures
    ∙ ap not c.if-not-stands_for.true) l.invariant

pub loop-i-preserved : goal.loop-i-preserved
loop-i-preserved c =
    let a = c.args in
    let l = c.loop-i in
    below_more _ _ l.invariant
    (entry-test a.types.now a.input.now l.i c.loop-i-test.true c.word_at.ensures c.stands_for.ensures
    ∙ ap not c.if-not-stands_for.false)

pub returns : goal.returns
returns c =
    lowest-is _ _ _ (omega arith) (λ more. absurd (omega arith)) (λ j l. c.loop-i.invariant j (omega (arith, c.loop-i-test.false)))
