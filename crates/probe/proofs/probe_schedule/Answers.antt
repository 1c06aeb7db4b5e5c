-- `probe_schedule` meets its contract: the maker's answer, packed, and its list. Assumes nothing.
use mathlib.Core.Path.{sym, ◌∙◌}
use native.Mathlib.Omega.{arith}
use Rattle.maker.proofs.Laws.Calls.{depth-bounded, maker_bounded}
use Rattle.probe.proofs.probe_schedule.Goals as goal

pub packed-requires : goal.packed-requires
packed-requires c =
    let within = maker_bounded _ _ (sym c.make.ensures.value ∙ c.in-Err.is) in
    omega arith

pub overflow_cast-result : goal.overflow_cast-result
overflow_cast-result c =
    let within = depth-bounded _ _ (sym c.make.ensures.value ∙ c.in-Ok.is) in
    omega arith
