-- `check` meets its contract: the answer of the walk over the sheets, then of the tests of the whole memory and rows.
use mathlib.Core.Path.{sym}
use Rattle.std.proofs.lemmas.Result.{err_from_is_err_and}
use Rattle.board_check.proofs.Finding.{walk_refused, walk_through, finds-refusal, all_formed, finds_unfit, finds-all}
use Rattle.board_check.proofs.check.Goals as goal

pub returns-in_err-walked : goal.returns-in_err-walked
returns-in_err-walked c =
    let a = c.args in
    let p = err_from_is_err_and c.from_residual.result c.from_residual.ensures.1 in
    rw (p.1, p.2) (finds-refusal a.board.now a.memory.now a.input.now a.output.now c.requires a.wanted
    (walk_refused c.in_err-walked.ensures))

pub returns-in_err-check_buffers : goal.returns-in_err-check_buffers
returns-in_err-check_buffers c =
    let a = c.args in
    let r = err_from_is_err_and c.from_residual-in_err-check_buffers.result c.from_residual-in_err-check_buffers.ensures.1 in
    let p = walk_through c.in_ok-walked.ensures in
    rw (r.1, r.2) (finds_unfit a.board.now a.memory.now a.input.now a.output.now c.requires a.wanted p
    (sym (c.in_err-check_buffers.ensures _ (all_formed p))))

pub returns : goal.returns
returns c =
    let a = c.args in
    let p = walk_through c.in_ok-walked.ensures in
    finds-all a.board.now a.memory.now a.input.now a.output.now c.requires a.wanted p
    (sym (c.in_ok-check_buffers.ensures _ (all_formed p)))
