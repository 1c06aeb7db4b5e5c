-- `lengths` meets its contract. The loop's invariant: the sheets below k end within the board, and the next length stands behind them.
use Prim.Native.Nat.{◌+◌, ◌≤◌}
use mathlib.Core.Path.{refl, ap, ◌∙◌}
use native.Mathlib.Omega.{arith}
use native.Mathlib.Numerals.{add-one}
use lib.ListN.{length}
use Rattle.std.specs.Prelude.{Err}
use borrow.Author.Count.{below_more}
use Rattle.board.specs.Boards.{length_place}
use Rattle.board_frame.proofs.Ends.{some_byte, next_place, runs_past_lem, stays_within, sheet-past, left_over, nothing-over}
use Rattle.board_frame.proofs.lengths.Goals as goal

pub loop-k-init : goal.loop-k-init
unfolding length_place
loop-k-init c =
    let start = c.before in
    (omega arith, refl, some_byte start.args.board.now (omega arith), λ j l. absurd (omega arith))

pub returns-then-board-at : goal.returns-then-board-at
returns-then-board-at c =
    let start = c.before.before.before.before.before in
    let turn = c.loop-k in
    let long = ap (λ n. 2 + n) c.length_at-long.ensures.0 in
    ap Err c.at.ensures ∙ sheet-past _ _ _ _ start.requires.0 start.requires.1 start.requires.2 turn.invariant.0 turn.invariant.1 turn.invariant.3
    c.loop-k-test.true (runs_past_lem _ _ _ _ turn.invariant.1 long (omega (arith, c.if-board-at.true)))

pub loop-k-preserved : goal.loop-k-preserved
loop-k-preserved c =
    let start = c.before.before.before.before.before in
    let turn = c.loop-k in
    let board = start.args.board.now in
    let long = ap (λ n. 2 + n) c.length_at-long.ensures.0 in
    let within : turn.at + (2 + c.length_at-long.result) ≤ length board = omega (arith, c.if-board-at.false) in (
      omega arith,
      rw add-one (next_place board _ _ _ turn.invariant.1 long),
      within,
      below_more _ _ turn.invariant.3 (stays_within board _ _ _ turn.invariant.1 long within),
    )

pub returns-then-at-board : goal.returns-then-at-board
returns-then-at-board c =
    let start = c.before.before.before.before in
    let turn = c.loop-k in
    ap Err c.at-then-at-board.ensures ∙ left_over _ _ _ _ start.requires.0 start.requires.1 start.requires.2 turn.invariant.0 turn.invariant.1 turn.invariant.3
    c.loop-k-test.false c.if-at-board.true

pub returns : goal.returns
returns c =
    let start = c.before.before.before.before in
    let turn = c.loop-k in
    nothing-over _ _ _ _ start.requires.0 start.requires.1 start.requires.2 turn.invariant.0 turn.invariant.1 turn.invariant.3
    c.loop-k-test.false c.if-at-board.false
