-- `sheet_line` meets its contract: the check answers for the sheet, and the instants begin as its counts say.
use mathlib.Core.Path.{sym, ap}
use native.Mathlib.Omega.{arith}
use lib.Seq.{length-take-le}
use Rattle.sheet.specs.Laws.Refusals.{check_refusals}
use Rattle.play.specs.Text.{sheet_in, rows_in, checked_text}
use Rattle.play.proofs.Giving.{final}
use Rattle.play.proofs.Sheet.{own-answer, own-passed, few-counts, passed-line}
use borrow.Author.Rules.{rules}
use Rattle.play.proofs.sheet_line.Goals as goal

pub refused_line-requires : goal.refused_line-requires
refused_line-requires c =
    (search rules, (check_refusals _ (sym c.in-Err.ensures)).bounded)

pub overflow_mul-cells_size : goal.overflow_mul-cells_size
overflow_mul-cells_size c =
    let few = few-counts _ (own-passed c.args.bytes.now c.sheet_length-at.ensures.value c.in-Ok.ensures) in
    record { fits = omega (arith, few.cells-few) }

pub slice_bounds-start-end : goal.slice_bounds-start-end
slice_bounds-start-end c =
    let few = few-counts _ (own-passed c.args.bytes.now c.sheet_length-at.ensures.value c.in-Ok.ensures) in
    omega (arith, few.cells-few)

pub slice_bounds-start-end-in-Ok : goal.slice_bounds-start-end-in-Ok
slice_bounds-start-end-in-Ok c =
    let few = few-counts _ (own-passed c.args.bytes.now c.sheet_length-at.ensures.value c.in-Ok.ensures) in
    sym (length-take-le _ _ (omega (arith, few.cells-few)))

pub overflow_cast-counts : goal.overflow_cast-counts
overflow_cast-counts c =
    let few = few-counts _ (own-passed c.args.bytes.now c.sheet_length-at.ensures.value c.in-Ok.ensures) in
    record { fits = omega (arith, few.inputs-few) }

pub overflow_cast-counts-in-Ok : goal.overflow_cast-counts-in-Ok
overflow_cast-counts-in-Ok c =
    let few = few-counts _ (own-passed c.args.bytes.now c.sheet_length-at.ensures.value c.in-Ok.ensures) in
    record { fits = omega (arith, few.wires-few) }

pub overflow_cast-counts-in-Ok-2 : goal.overflow_cast-counts-in-Ok-2
overflow_cast-counts-in-Ok-2 c =
    let few = few-counts _ (own-passed c.args.bytes.now c.sheet_length-at.ensures.value c.in-Ok.ensures) in
    record { fits = omega (arith, few.outputs-few) }

pub overflow_cast-counts-in-Ok-3 : goal.overflow_cast-counts-in-Ok-3
overflow_cast-counts-in-Ok-3 c =
    let few = few-counts _ (own-passed c.args.bytes.now c.sheet_length-at.ensures.value c.in-Ok.ensures) in
    record { fits = omega (arith, few.cells-few) }

pub first_instant-progress-requires : goal.first_instant-progress-requires
first_instant-progress-requires c =
    let few = few-counts _ (own-passed c.args.bytes.now c.sheet_length-at.ensures.value c.in-Ok.ensures) in
    (few.inputs-few, few.outputs-few, few.cells-few)

pub returns-in-Err : goal.returns-in-Err
returns-in-Err c =
    let bytes = c.args.bytes.now in
    let answer = own-answer bytes c.sheet_length-at.ensures.value c.in-Err.ensures in
    final c.final_line.ensures c.refused_line.ensures
    (ap (λ x. checked_text x (sheet_in bytes) (rows_in bytes)) (sym answer))

pub returns-in-Ok : goal.returns-in-Ok
returns-in-Ok c =
    passed-line c.args.bytes.now (own-passed c.args.bytes.now c.sheet_length-at.ensures.value c.in-Ok.ensures)
    c.sheet_length-at.ensures.value _ c.args.memory.now c.requires.bytes_in_bounds c.requires.room.few c.requires.room.cells
    c.first_instant-progress.ensures c.start.auto.memory c.start.ensures.memory_after c.sheet_line-size.ensures
