-- `tick` meets its contract, by what the frame and the checks were found to be.
use mathlib.Core.Path.{ap, ◌∙◌}
use native.Mathlib.Omega.{arith}
use Rattle.std.proofs.lemmas.Result.{err_from_is_err_and}
use Rattle.board.specs.Marks.{marked}
use Rattle.board.proofs.Laws.Boards.{frame-passed}
use Rattle.board_check.specs.Laws.Found.{found-refused, found_passed}
use Rattle.board_marks.specs.Sets.{one-cleared}
use Rattle.tick.proofs.Ticks.{answered-refused, answered_result, frame_refused, leaves-refused, due_below, leaves-idle, parted, leaves-served}
use Rattle.tick.proofs.tick.Goals as goal

pub returns-in_err-count : goal.returns-in_err-count
returns-in_err-count c =
    let p = err_from_is_err_and c.from_residual.result c.from_residual.ensures.1 in
    rw (p.1, p.2) (leaves-refused _ _ _ _ _ _ _ (frame_refused _ _ _ _ (answered-refused _ c.in_err-count.ensures)))

pub due_marks-marks-requires : goal.due_marks-marks-requires
due_marks-marks-requires c = (frame-passed _ _ (answered_result _ c.in_ok-count.ensures)).most

pub first_due-sheet-requires : goal.first_due-sheet-requires
first_due-sheet-requires c = let p = frame-passed _ _ (answered_result _ c.in_ok-count.ensures) in (p.least, p.most)

pub returns-in_err-span : goal.returns-in_err-span
returns-in_err-span c =
    let p = err_from_is_err_and c.from_residual-in_err-span.result c.from_residual-in_err-span.ensures.1 in
    rw (p.1, p.2) (leaves-refused _ _ _ _ _ _ _ (found-refused c.in_err-span.ensures))

pub returns-then-sheet-count : goal.returns-then-sheet-count
returns-then-sheet-count c =
    let framed = answered_result _ c.in_ok-count.ensures in
    let marks = c.due_marks-marks.ensures in
    leaves-idle _ _ _ _ _ _ _ framed (c.first_due-sheet.ensures _ marks) (found_passed c.in_ok-span.ensures).1 c.if-sheet-count.true
    (c.byte_of-standing.ensures _ _ (frame-passed _ _ framed).most marks)

pub has-restarts-requires : goal.has-restarts-requires
has-restarts-requires c =
    let below = due_below _ c.args.memory.now c.args.input.now c.args.output.now _ c.args.restart c.args.standing.now (answered_result _ c.in_ok-count.ensures)
    (c.first_due-sheet.ensures _ c.due_marks-marks.ensures) c.if-sheet-count.false in
    omega (arith, below.1)

pub serve_part-answer-requires : goal.serve_part-answer-requires
serve_part-answer-requires c =
    let passed = found_passed c.in_ok-span.ensures in
    parted _ _ _ _ _ c.args.restart _ (answered_result _ c.in_ok-count.ensures) (c.first_due-sheet.ensures _ c.due_marks-marks.ensures) passed.1
    c.if-sheet-count.false passed.2

pub without-requires : goal.without-requires
without-requires c =
    let below = due_below _ c.args.memory.now c.args.input.now c.args.output.now _ c.args.restart c.args.standing.now (answered_result _ c.in_ok-count.ensures)
    (c.first_due-sheet.ensures _ c.due_marks-marks.ensures) c.if-sheet-count.false in
    omega (arith, below.1)

pub overflow_cast-standing : goal.overflow_cast-standing
overflow_cast-standing c =
    let below = due_below _ c.args.memory.now c.args.input.now c.args.output.now _ c.args.restart c.args.standing.now (answered_result _ c.in_ok-count.ensures)
    (c.first_due-sheet.ensures _ c.due_marks-marks.ensures) c.if-sheet-count.false in
    record { fits = omega (arith, below.1) }

pub returns : goal.returns
returns c =
    let framed = answered_result _ c.in_ok-count.ensures in
    let marks = c.due_marks-marks.ensures in
    let first = c.first_due-sheet.ensures _ marks in
    let passed = found_passed c.in_ok-span.ensures in
    let other = c.if-sheet-count.false in
    let p = parted _ _ _ _ _ c.args.restart _ framed first passed.1 other passed.2 in
    let cleared = one-cleared _ marks c.without.ensures in
    leaves-served _ _ _ _ _ _ _ framed first passed.1 other passed.2 (c.has-restarts.ensures ∙ ap (λ b. marked b c.first_due-sheet.result) c.set_of.ensures)
    (c.serve_part-answer.ensures p) c.served.ensures (c.byte_of-standing-2.ensures _ _ (frame-passed _ _ framed).most cleared)
