-- `nuthatchbed_scheduled` meets its contract: the answer of the scheduled instant, packed, and what it leaves. Assumes nothing.
use mathlib.Core.Path.{sym, ◌∙◌}
use native.Mathlib.Omega.{arith}
use Rattle.kernel.proofs.Laws.Answers.{scheduled-refusals}
use Rattle.nuthatchbed.proofs.nuthatchbed_scheduled.Goals as goal

pub packed-requires : goal.packed-requires
packed-requires c =
    let within = (scheduled-refusals _ _ _ _ _ (sym c.instant.ensures.answers
    ∙ c.in-Err.is)).bounded in
    omega arith
