-- `show` meets its contract, by either way past the test whether all wires are known.
use mathlib.Core.Path.{refl}
use native.Mathlib.Omega.{arith}
use Rattle.std.proofs.lemmas.Result.{err_from_is_err_and}
use Rattle.given.specs.Grants.{granted_reads}
use Rattle.given.specs.Laws.Finished.{row_fits}
use Rattle.in_rounds.proofs.Showing.{given-refused, loop-asked, unknown-shown, finished-shown}
use Rattle.in_rounds.proofs.show.Goals as goal

pub returns-in_err-parts : goal.returns-in_err-parts
returns-in_err-parts c =
    let p = err_from_is_err_and c.from_residual.result c.from_residual.ensures.1 in
    rw (p.1, p.2) (given-refused _ _ _ _ _ _ _ (c.given_of.ensures.refused c.in_err-parts.was))

pub finish-solved-requires : goal.finish-solved-requires
finish-solved-requires c =
    let g = (c.given_of.ensures.passed c.in_ok-parts.was).granted in
    (granted_reads g, omega (arith, g.running.few, g.room))

pub lowest_waiting-place-requires : goal.lowest_waiting-place-requires
lowest_waiting-place-requires c =
    let g = (c.given_of.ensures.passed c.in_ok-parts.was).granted in
    (loop-asked g (c.finish-solved.ensures (granted_reads g)).0, g.set_room)

pub returns-then-count-types : goal.returns-then-count-types
returns-then-count-types c =
    let g = (c.given_of.ensures.passed c.in_ok-parts.was).granted in
    rw c.at.ensures
    (unknown-shown g (c.finish-solved.ensures (granted_reads g)).0 (λ e. c.if-count-types.true (omega (arith, c.count.ensures)))
    c.lowest_waiting-place.ensures)

pub write_row-requires : goal.write_row-requires
write_row-requires c = row_fits (c.given_of.ensures.passed c.in_ok-parts.was).granted

pub returns : goal.returns
returns c =
    let g = (c.given_of.ensures.passed c.in_ok-parts.was).granted in
    let (h, made) = c.finish-solved.ensures (granted_reads g) in
    finished-shown g h (omega (arith, c.count.ensures, c.if-count-types.false)) made refl c.write_row.ensures
