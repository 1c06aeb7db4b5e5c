-- `first_not_new` finds the first position that check 18 refuses. The loop's invariant: the positions passed are new, and the set
-- holds just their entries.
use mathlib.Core.Path.{sym, ◌∙◌}
use native.Mathlib.Omega.{arith}
use borrow.Author.Count.{below_more}
use Rattle.sheet.specs.Laws.Lowest.{lowest-is}
use Rattle.schedule.proofs.Ordering.{none_named, one-more-named, outside, named}
use Rattle.schedule.proofs.first_not_new.Goals as goal

pub loop-p-init : goal.loop-p-init
loop-p-init c = (none_named _ c.none-named.ensures, λ j l. absurd (omega arith))

pub returns-then-wires-wire : goal.returns-then-wires-wire
returns-then-wires-wire c =
    let l = c.loop-p in
    (lowest-is _ _ l.p l.auto.p-end (λ _. outside _ _ l.p (omega arith)) l.invariant.1)

pub returns-then-has : goal.returns-then-has
returns-then-has c =
    let l = c.loop-p in
    (lowest-is _ _ l.p l.auto.p-end
    (λ _. named _ _ l.p c.if-wires-wire.false l.invariant.0 ∙ sym c.has.ensures ∙ c.if-has.true) l.invariant.1)

pub loop-p-preserved : goal.loop-p-preserved
loop-p-preserved c =
    let l = c.loop-p in (
      one-more-named _ (omega arith) l.invariant.0 c.with-named.ensures,
      below_more _ l.p l.invariant.1
          (named _ _ l.p c.if-wires-wire.false l.invariant.0 ∙ sym c.has.ensures
          ∙ c.if-has.false),
    )

pub returns : goal.returns
returns c =
    lowest-is _ _ _ (omega arith) (λ more. absurd (omega arith)) (λ j l. c.loop-p.invariant.1 j (omega (arith, c.loop-p-test.false)))
