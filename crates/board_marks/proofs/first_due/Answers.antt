-- `first_due` meets its contract. The loop's invariant: no sheet at an earlier place in the ring is due.
use mathlib.Core.Path.{◌∙◌}
use Rattle.board_marks.proofs.Ring.{due-at, first_found, none_found}
use Rattle.board_marks.proofs.first_due.Goals as goal

pub returns-then-has : goal.returns-then-has
returns-then-has c due just =
    let start = c.before.before.before.before.before.before in
    let turn = c.loop-i in
    let last = c.served_last-last.ensures.0 in
    let sheet = c.ring_at-sheet.ensures in
    let passes = due-at start.args.number just _ turn.i _ last sheet.0 sheet.1 c.has.ensures ∙ c.if-has.true in
    first_found start.args.number just _ turn.i _ last sheet.0 c.loop-i-test.true passes
    (turn.invariant.1 due just)

pub returns : goal.returns
returns c due just =
    let start = c.before.before.before in
    let turn = c.loop-i in
    none_found start.args.number just turn.i c.loop-i-test.false (turn.invariant.1 due just)
