-- `instant` meets its contract: the checks, the list and the pass make the call's outcome, and what passed is stored and written.
use Rattle.std.proofs.lemmas.Result.{err_from_is_err_and}
use Rattle.given.specs.Laws.Finished.{settled, row_fits}
use Rattle.along_schedule.proofs.Passing.{given-refused, order-refused, order-passed, along, pass-full, pass-holds, scheduled-accepts}
use Rattle.along_schedule.proofs.instant.Goals as goal

pub returns-in_err-parts : goal.returns-in_err-parts
returns-in_err-parts c =
    let p = err_from_is_err_and c.from_residual.result c.from_residual.ensures.1 in
    rw (p.1, p.2) (given-refused _ _ _ _ _ (c.given_of.ensures.refused c.in_err-parts.was))

pub check_schedule-requires : goal.check_schedule-requires
check_schedule-requires c = (c.given_of.ensures.passed c.in_ok-parts.was).granted.running.few

pub returns-in_err-check_schedule : goal.returns-in_err-check_schedule
returns-in_err-check_schedule c =
    let g = (c.given_of.ensures.passed c.in_ok-parts.was).granted in
    let p = err_from_is_err_and c.from_residual-in_err-check_schedule.result c.from_residual-in_err-check_schedule.ensures.1 in
    rw (p.1, p.2) (order-refused g _ c.check_schedule.ensures c.in_err-check_schedule.was)

-- the list is a schedule
pub pass-requires : goal.pass-requires
pass-requires c =
    let g = (c.given_of.ensures.passed c.in_ok-parts.was).granted in
    along g (order-passed g _ c.check_schedule.ensures c.in_ok-check_schedule.was)

-- the pass came to the finished values
pub store-requires : goal.store-requires
store-requires c =
    let g = (c.given_of.ensures.passed c.in_ok-parts.was).granted in
    let schedule = order-passed g _ c.check_schedule.ensures c.in_ok-check_schedule.was in
    settled g (pass-holds g schedule (c.pass.ensures (along g schedule))) (pass-full g schedule)

pub write_row-requires : goal.write_row-requires
write_row-requires c = row_fits (c.given_of.ensures.passed c.in_ok-parts.was).granted

pub returns : goal.returns
returns c =
    let g = (c.given_of.ensures.passed c.in_ok-parts.was).granted in
    let schedule = order-passed g _ c.check_schedule.ensures c.in_ok-check_schedule.was in
    let h = pass-holds g schedule (c.pass.ensures (along g schedule)) in
    scheduled-accepts g schedule h (c.store.ensures (settled g h (pass-full g schedule))) c.write_row.ensures
