-- `given_of` meets its contract: the answers follow those of the check and of the buffers' tests, and what passed is granted.
use mathlib.Core.Path.{sym}
use native.Mathlib.Omega.{arith}
use lib.ListN.{length-take}
use Rattle.std.proofs.lemmas.Result.{err_from_is_err_and}
use Rattle.sheet.proofs.Laws.Checked.{check_passed}
use Rattle.given.proofs.Passing.{sheet-refused}
use Rattle.given.proofs.Granting.{grants-refused, grants-passed, tested-refused, tested-kept, tested-granted}
use Rattle.given.proofs.given_of.Goals as goal

pub overflow_add-types : goal.overflow_add-types
overflow_add-types c =
    let p = check_passed c.args.sheet.now c.in_ok-counts.counts (sym c.in_ok-counts.ensures.value) in
    omega (arith, p.few-inputs)

pub slice_bounds-types-end : goal.slice_bounds-types-end
slice_bounds-types-end c = (check_passed c.args.sheet.now c.in_ok-counts.counts (sym c.in_ok-counts.ensures.value)).within

-- the map has the forms of the cells in a table of 64
pub check_buffers-requires : goal.check_buffers-requires
check_buffers-requires c =
    let p = check_passed c.args.sheet.now c.in_ok-counts.counts (sym c.in_ok-counts.ensures.value) in
    let room = (c.in_ok-counts.ensures.mapped p.sheet p.end _ p.view).cell_room in
    record {
      cells_bound = (omega (arith, p.few-cells), omega (arith, p.few-cells, room));
      types_len_bound = (simp length-take (omega (arith, p.few-inputs)), omega (arith, p.few-outputs));
    }

pub parts_of-parts-requires : goal.parts_of-parts-requires
parts_of-parts-requires c =
    let p = check_passed c.args.sheet.now c.in_ok-counts.counts (sym c.in_ok-counts.ensures.value) in
    let kept = tested-kept p c.in_ok-counts.ensures.mapped _ _ _ c.check_buffers.ensures (λ i. omega (arith, c.type_inv.memory i)) c.in_ok-check_buffers.was in
    (p.few-inputs, p.few-wires, p.few-outputs, kept.0)

pub put_fixed-requires : goal.put_fixed-requires
put_fixed-requires c =
    let p = check_passed c.args.sheet.now c.in_ok-counts.counts (sym c.in_ok-counts.ensures.value) in
    let (within, kept, few, row) =
    tested-kept p c.in_ok-counts.ensures.mapped _ _ _ c.check_buffers.ensures (λ i. omega (arith, c.type_inv.memory i)) c.in_ok-check_buffers.was in
    rw c.parts_of-parts.ensures.types (kept, few, row, c.requires)

pub returns-in_err-counts : goal.returns-in_err-counts
returns-in_err-counts c =
    let q = err_from_is_err_and c.from_residual.result c.from_residual.ensures.1 in
    rw (q.1, q.2) (grants-refused _ _ _ _ _ _ _ _ (sheet-refused _ _ _ _ (sym c.in_err-counts.ensures.value)))

pub returns-in_err-check_buffers : goal.returns-in_err-check_buffers
returns-in_err-check_buffers c =
    let p = check_passed c.args.sheet.now c.in_ok-counts.counts (sym c.in_ok-counts.ensures.value) in
    let q = err_from_is_err_and c.from_residual-in_err-check_buffers.result c.from_residual-in_err-check_buffers.ensures.1 in
    rw (q.1, q.2)
    (grants-refused _ _ _ _ _ _ _ _ (tested-refused p c.in_ok-counts.ensures.mapped _ _ _ c.check_buffers.ensures c.in_err-check_buffers.was))

pub returns : goal.returns
returns c =
    let p = check_passed c.args.sheet.now c.in_ok-counts.counts (sym c.in_ok-counts.ensures.value) in
    let put = c.put_fixed.ensures in
    let stand = c.parts_of-parts.ensures in
    grants-passed _ _ _ _ _ _ _ _
    (rw (stand.types, stand.outputs)
    (tested-granted p c.in_ok-counts.ensures.mapped _ _ _ c.check_buffers.ensures (λ i. omega (arith, c.type_inv.memory i))
    c.in_ok-check_buffers.was put.0 (rw stand.types at put.1) put.2))
