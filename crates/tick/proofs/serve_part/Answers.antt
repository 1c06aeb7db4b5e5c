-- `serve_part` meets its contract: what is lent are the sheet's parts.
use native.Mathlib.Omega.{arith}
use Rattle.tick.proofs.Lending.{lent, lent_fits, served-part}
use Rattle.tick.proofs.serve_part.Goals as goal

pub overflow_add-sheet_from : goal.overflow_add-sheet_from
overflow_add-sheet_from c = omega (arith, (lent c.requires).sheet)

pub overflow_mul-cells_from : goal.overflow_mul-cells_from
overflow_mul-cells_from c = omega (arith, (lent c.requires).cells)

pub overflow_mul-cells_to : goal.overflow_mul-cells_to
overflow_mul-cells_to c = omega (arith, (lent c.requires).cells)

pub overflow_mul-inputs_from : goal.overflow_mul-inputs_from
overflow_mul-inputs_from c = omega (arith, (lent c.requires).inputs)

pub overflow_mul-inputs_to : goal.overflow_mul-inputs_to
overflow_mul-inputs_to c = omega (arith, (lent c.requires).inputs)

pub overflow_mul-outputs_from : goal.overflow_mul-outputs_from
overflow_mul-outputs_from c = omega (arith, (lent c.requires).outputs)

pub overflow_mul-outputs_to : goal.overflow_mul-outputs_to
overflow_mul-outputs_to c = omega (arith, (lent c.requires).outputs)

pub slice_bounds-serve-count : goal.slice_bounds-serve-count
slice_bounds-serve-count c = omega (arith, (lent c.requires).sheet)

pub slice_bounds-serve-start : goal.slice_bounds-serve-start
slice_bounds-serve-start c = omega (arith, (lent c.requires).sheet)

pub slice_bounds-serve-end : goal.slice_bounds-serve-end
slice_bounds-serve-end c = omega (arith, (lent c.requires).sheet)

pub slice_bounds-serve-count-2 : goal.slice_bounds-serve-count-2
slice_bounds-serve-count-2 c = omega (arith, (lent c.requires).cells)

pub slice_bounds-serve-start-2 : goal.slice_bounds-serve-start-2
slice_bounds-serve-start-2 c = omega (arith, (lent c.requires).cells)

pub slice_bounds-serve-end-2 : goal.slice_bounds-serve-end-2
slice_bounds-serve-end-2 c = omega (arith, (lent c.requires).cells)

pub slice_bounds-serve-count-3 : goal.slice_bounds-serve-count-3
slice_bounds-serve-count-3 c = omega (arith, (lent c.requires).inputs)

pub slice_bounds-serve-start-3 : goal.slice_bounds-serve-start-3
slice_bounds-serve-start-3 c = omega (arith, (lent c.requires).inputs)

pub slice_bounds-serve-end-3 : goal.slice_bounds-serve-end-3
slice_bounds-serve-end-3 c = omega (arith, (lent c.requires).inputs)

pub slice_bounds-serve-count-4 : goal.slice_bounds-serve-count-4
slice_bounds-serve-count-4 c = omega (arith, (lent c.requires).outputs)

pub slice_bounds-serve-start-4 : goal.slice_bounds-serve-start-4
slice_bounds-serve-start-4 c = omega (arith, (lent c.requires).outputs)

pub slice_bounds-serve-end-4 : goal.slice_bounds-serve-end-4
slice_bounds-serve-end-4 c = omega (arith, (lent c.requires).outputs)

pub serve-requires : goal.serve-requires
serve-requires c = lent_fits c.requires

pub returns : goal.returns
returns c p = served-part p c.args.restarts c.serve.ensures
