-- `first_too_early` finds the first position that check 19 refuses. The loop's invariant: the positions passed are not refused, and
-- the set holds just their entries.
use mathlib.Core.Path.{ap, ◌∙◌}
use mathlib.Core.Bool.{not}
use native.Mathlib.Omega.{arith}
use borrow.Author.Count.{below_more}
use Rattle.sheet.specs.Laws.Lowest.{lowest-is}
use Rattle.schedule.proofs.Ordering.{none_named, one-more-named, early}
use Rattle.schedule.proofs.first_too_early.Goals as goal

pub loop-p-init : goal.loop-p-init
loop-p-init c = (none_named _ c.none-named.ensures, λ reads_of held j h. absurd (omega arith))

pub returns-then-not-within : goal.returns-then-not-within
returns-then-not-within c reads_of held =
    let at = c.loop-p in
    let pre = c.requires in
    (lowest-is _ _ at.p at.auto.p-end
    (λ more. early _ reads_of at.p at.invariant.0 (held _ (pre.2 at.p more)) c.within.ensures ∙ ap not c.if-not-within.true)
    (at.invariant.1 reads_of held))

pub loop-p-preserved : goal.loop-p-preserved
loop-p-preserved c =
    let at = c.loop-p in
    let pre = c.requires in
    let wire = pre.2 at.p c.loop-p-test.true in (
      one-more-named _ (omega (arith, pre.1)) at.invariant.0 c.with-grown.ensures,
      λ reads_of held. below_more _ at.p (at.invariant.1 reads_of held)
          (early _ reads_of at.p at.invariant.0 (held _ wire) c.within.ensures ∙ ap not c.if-not-within.false),
    )

pub returns : goal.returns
returns c reads_of held =
    lowest-is _ _ _ (omega arith) (λ more. absurd (omega arith))
    (λ j l. c.loop-p.invariant.1 reads_of held j (omega (arith, c.loop-p-test.false)))
