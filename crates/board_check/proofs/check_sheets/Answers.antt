-- `check_sheets` meets its contract. The loop's invariant: the sheets passed are read, and their parts are in the tables.
use Rattle.std.proofs.lemmas.Result.{err_from_is_err_and}
use Rattle.board_check.specs.Steps.{refuses}
use Rattle.board_check.proofs.Walking.{stopped, went}
use Rattle.board_check.proofs.Walking.{walk-starts, walk-room, walk-stops, walk-takes, walk-passes, walk_ends}
use Rattle.board_check.proofs.check_sheets.Goals as goal

pub loop-k-init : goal.loop-k-init
loop-k-init c =
    let a = c.args in
    walk-starts a.board.now a.sheets a.wanted _ a.forms.now a.types.now c.requires.1 c.requires.2

pub check_sheet-requires : goal.check_sheet-requires
check_sheet-requires c =
    let a = c.args in
    walk-room a.board.now a.sheets a.wanted c.loop-k.invariant c.requires.0 c.loop-k-test.true

pub returns-in_err-next : goal.returns-in_err-next
returns-in_err-next c =
    let a = c.args in
    let at = c.loop-k in
    let w = at.invariant in
    let steps = c.in_err-next.ensures at.k w.read w.place w.collected in
    let p = err_from_is_err_and c.from_residual.result c.from_residual.ensures.1 in
    rw (
      p.1,
      p.2,
      walk-stops a.board.now a.sheets a.wanted w c.loop-k-test.true
          (stopped steps),
    ) refuses

pub loop-k-preserved : goal.loop-k-preserved
loop-k-preserved c =
    let a = c.args in
    let at = c.loop-k in
    let l = c.loop-k-test.true in
    let w = at.invariant in
    let steps = c.in_ok-next.ensures at.k w.read w.place w.collected in
    let s = went steps in
    elim c.if-k-wanted.branch [ goal.then-k-wanted u ↦ rw u.span-is (walk-takes a.board.now a.sheets a.wanted w l s u.if-k-wanted.true) | goal.else-k-wanted u ↦ rw u.span-is (walk-passes a.board.now a.sheets a.wanted w l s u.if-k-wanted.false) ]

pub returns : goal.returns
returns c =
    let a = c.args in
    walk_ends a.board.now a.sheets a.wanted c.loop-k.invariant c.requires.0 c.loop-k-test.false
