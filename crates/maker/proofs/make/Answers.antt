-- `make` meets its contract: the answers follow those of the check, whose map has what each wire reads.
use mathlib.Core.Path.{sym}
use Rattle.std.proofs.lemmas.Result.{err_from_is_err_and}
use Rattle.sheet.proofs.Laws.Checked.{check_refused}
use Rattle.maker.proofs.Calling.{passes, make-stopped, make-passed}
use Rattle.maker.proofs.make.Goals as goal

pub make_list-requires : goal.make_list-requires
make_list-requires c =
    let p = passes c.args.sheet.now c.in_ok-counts.counts (sym c.in_ok-counts.ensures.value) c.in_ok-counts.ensures.mapped in
    (p.few, p.room)

pub returns-in_err-counts : goal.returns-in_err-counts
returns-in_err-counts c =
    let p = err_from_is_err_and c.from_residual.result c.from_residual.ensures.1 in
    let all = (make-stopped _ _ (check_refused _ (sym c.in_err-counts.ensures.value))) in
    rw (p.1, p.2) (record { value = all.0; list_after = all.1 })

pub returns : goal.returns
returns c =
    let p = passes c.args.sheet.now c.in_ok-counts.counts (sym c.in_ok-counts.ensures.value) c.in_ok-counts.ensures.mapped in
    let all = make-passed _ _ p.outcome (c.make_list.ensures p.sheet p.typed p.counted p.held) in
    record { value = all.0; list_after = all.1 }
