-- `nuthatchbed_start` meets its contract: the start's answer, packed, and its memory. Assumes nothing.
use mathlib.Core.Path.{sym}
use native.Mathlib.Omega.{arith}
use Rattle.sheet.specs.Laws.Refusals.{start-refusals}
use Rattle.nuthatchbed.proofs.nuthatchbed_start.Goals as goal

pub packed-requires : goal.packed-requires
packed-requires c =
    let within = (start-refusals _ _ (sym c.in-Err.ensures.value)).bounded in
    omega arith
