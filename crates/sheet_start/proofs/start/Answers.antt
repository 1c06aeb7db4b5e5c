-- `start` meets its contract: the answers follow those of the check, and the cells that it noted are put.
use mathlib.Core.Path.{sym}
use Rattle.std.proofs.lemmas.Result.{err_from_is_err_and}
use Rattle.sheet.proofs.Laws.Checked.{check_refused}
use Rattle.sheet_start.proofs.Passing.{passes, start-stopped, start-passed}
use Rattle.sheet_start.proofs.start.Goals as goal

pub start_cells-requires : goal.start_cells-requires
start_cells-requires c = (passes c.args.sheet.now c.in_ok-counts.counts (sym c.in_ok-counts.ensures.value) c.in_ok-counts.ensures.mapped).noted

pub returns-in_err-counts : goal.returns-in_err-counts
returns-in_err-counts c =
    let p = err_from_is_err_and c.from_residual.result c.from_residual.ensures.1 in
    let all = start-stopped _ _ (check_refused _ (sym c.in_err-counts.ensures.value)) in
    record { value = rw (p.1, p.2) all.0; memory_after = all.1 }

pub returns : goal.returns
returns c =
    let p = passes c.args.sheet.now c.in_ok-counts.counts (sym c.in_ok-counts.ensures.value) c.in_ok-counts.ensures.mapped in
    let all = start-passed _ _ p.outcome (rw p.same at (c.start_cells.ensures p.noted)) in
    record { value = all.0; memory_after = all.1 }
