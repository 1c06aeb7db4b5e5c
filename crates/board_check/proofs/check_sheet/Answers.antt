-- `check_sheet` meets its contract: the refusal with its place counted in the board, or the sheet's parts behind the others.
use mathlib.Core.Path.{sym, ap}
use native.Mathlib.Omega.{arith}
use lib.ListN.{length-take, length-drop}
use Rattle.sheet.specs.Sheets.{sheet_forms}
use Rattle.sheet.proofs.Laws.Checked.{check_passed}
use Rattle.board_check.proofs.Stepping.{place-within, step-stops, step-goes}
use Rattle.board_check.proofs.check_sheet.Goals as goal

pub overflow_add-counted : goal.overflow_add-counted
overflow_add-counted c =
    let at = c.length_at in
    omega (arith, place-within c.args.board.now c.args.here at.result at.ensures.0 c.requires.within (sym c.in-Err.ensures.value))

pub shared_ref_as_front-put_behind : goal.shared_ref_as_front-put_behind
shared_ref_as_front-put_behind c = (check_passed _ c.in-Ok.counts (sym c.in-Ok.ensures.value)).few-cells

pub put_behind-requires : goal.put_behind-requires
put_behind-requires c =
    let p = check_passed _ c.in-Ok.counts (sym c.in-Ok.ensures.value) in
    simp length-take (omega (arith, p.few-cells, c.requires.cells, c.requires.forms_sized))

pub overflow_add-counts : goal.overflow_add-counts
overflow_add-counts c = omega (arith, (check_passed _ c.in-Ok.counts (sym c.in-Ok.ensures.value)).few-inputs)

pub slice_bounds-put_behind-end-in-Ok-3 : goal.slice_bounds-put_behind-end-in-Ok-3
slice_bounds-put_behind-end-in-Ok-3 c = (check_passed _ c.in-Ok.counts (sym c.in-Ok.ensures.value)).within

pub put_behind-requires-in-Ok : goal.put_behind-requires-in-Ok
put_behind-requires-in-Ok c =
    let p = check_passed _ c.in-Ok.counts (sym c.in-Ok.ensures.value) in
    simp (length-take, length-drop) (omega (arith, p.few-inputs, c.requires.inputs, c.requires.types-sized))

pub further-requires : goal.further-requires
further-requires c =
    let p = check_passed _ c.in-Ok.counts (sym c.in-Ok.ensures.value) in
    let room = c.requires in
    (omega (arith, p.few-cells, room.cells), omega (arith, p.few-inputs, room.inputs), omega (arith, p.few-outputs, room.outputs))

pub returns-in-Err : goal.returns-in-Err
returns-in-Err c k done place collected =
    let at = c.length_at in
    rw c.at.ensures (step-stops c.args.board.now c.args.here at.result at.ensures.0 k done place _ _ (sym c.in-Err.ensures.value))

pub returns-in-Ok : goal.returns-in-Ok
returns-in-Ok c k done place collected =
    let a = c.args in
    let long = c.length_at in
    let p = check_passed _ c.in-Ok.counts (sym c.in-Ok.ensures.value) in
    let noted = rw (← (ap sheet_forms p.view.is)) at (c.in-Ok.ensures.mapped p.sheet p.end _ p.view).cell in
    rw (c.put_behind.ensures, c.put_behind-in-Ok.ensures, c.further.ensures)
    (step-goes a.board.now a.here long.result long.ensures.0 k done place a.forms.now a.types.now _ c.requires p noted collected)
