-- `lowest_waiting` meets its contract.
use mathlib.Core.Path.{◌∙◌}
use Rattle.waiting.specs.Waiting.{waits_in}
use Rattle.waiting.proofs.Relating.{lowest-place}
use Rattle.waiting.proofs.lowest_waiting.Goals as goal

pub returns : goal.returns
returns c = λ u. c.lowest_loop.ensures (waits_in u) (c.relate.ensures.rows u) ∙ lowest-place u
