-- `nuthatchbed_rounds` meets its contract: the answer of the instant in rounds, packed, and what it leaves. Assumes nothing.
use mathlib.Core.Path.{sym, subst}
use Rattle.kernel.specs.Calls.{Packable}
use Rattle.kernel.proofs.Laws.Answers.{rounds_packable}
use Rattle.nuthatchbed.proofs.nuthatchbed_rounds.Goals as goal

pub packed-requires : goal.packed-requires
packed-requires c = subst Packable (sym c.instant-answer.ensures.answers) (rounds_packable _ _ _ _)
