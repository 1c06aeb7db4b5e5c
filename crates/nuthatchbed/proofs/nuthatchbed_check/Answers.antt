-- `nuthatchbed_check` meets its contract: the check's answer, packed. Assumes nothing.
use mathlib.Core.Path.{sym}
use native.Mathlib.Omega.{arith}
use Rattle.sheet.proofs.Laws.Checked.{check_passed}
use Rattle.sheet.specs.Laws.Refusals.{check_refusals}
use Rattle.nuthatchbed.proofs.nuthatchbed_check.Goals as goal

pub packed-requires : goal.packed-requires
packed-requires c =
    let within = (check_refusals _ (sym c.in-Err.ensures)).bounded in omega arith

pub overflow_cast-result : goal.overflow_cast-result
overflow_cast-result c =
    let few = (check_passed _ c.in-Ok.counts (sym c.in-Ok.ensures)).few-cells in
    record { fits = omega arith }
