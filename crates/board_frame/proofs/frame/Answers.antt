-- `frame` meets its contract: the count, where the byte is missing 0, and then the lengths.
use mathlib.Core.Path.{ap, ◌∙◌}
use mathlib.Core.Logic.{⊎_elim}
use Rattle.std.specs.Prelude.{Err}
use Rattle.board_frame.proofs.Ends.{count_none, count-above}
use Rattle.board_frame.proofs.frame.Goals as goal

pub returns-then-count-lt1 : goal.returns-then-count-lt1
returns-then-count-lt1 c =
    let count = c.byte_at-count.ensures.0 in
    ap Err c.at.ensures ∙ ⊎_elim (λ w. count_none _ _ count w) (λ w. count-above _ _ count w.1) c.then-count-lt1.either
