-- `probe_preview` meets its contract: the answer of the preview, packed, and its row. Assumes nothing.
use mathlib.Core.Path.{sym, subst}
use Rattle.kernel.specs.Calls.{Packable}
use Rattle.kernel.proofs.Laws.Answers.{rounds_packable}
use Rattle.probe.proofs.probe_preview.Goals as goal

pub packed-requires : goal.packed-requires
packed-requires c = subst Packable (sym c.preview-answer.ensures.answers) (rounds_packable _ _ _ _)
