-- `close` meets its contract: one wire after the other is let in.
use mathlib.Core.Path.{refl, ◌∙◌}
use Rattle.closure.specs.Closures.{through}
use Rattle.closure.proofs.Turns.{first_rows, next-rows}
use Rattle.closure.proofs.close.Goals as goal

pub loop-k-init : goal.loop-k-init
loop-k-init c = (refl, first_rows)

pub loop-k-preserved : goal.loop-k-preserved
loop-k-preserved c =
    let at = c.loop-k in (
      c.let_in.ensures.rows_len_unchanged ∙ at.invariant.0,
      λ test relates. next-rows at.k test (at.invariant.1 test relates) (c.let_in.ensures.by_index (through test at.k)),
    )
