-- `lowest_loop` meets its contract: it goes over the closed relation.
use mathlib.Core.Path.{◌≡◌, sym, ◌∙◌}
use native.Mathlib.Omega.{arith}
use Rattle.closure.proofs.Turns.{loop-found}
use Rattle.closure.proofs.lowest_loop.Goals as goal

pub returns-then-has : goal.returns-then-has
returns-then-has c test relates =
    let at = c.loop-w in
    loop-found test at.w (c.close.ensures test relates) (omega arith) at.invariant (λ l. sym c.has.ensures ∙ c.if-has.true)

pub returns : goal.returns
returns c test relates =
    let all : c.loop-w.w ≡ c.args.count = omega arith in
    loop-found test c.args.count (c.close.ensures test relates) (omega arith) (rw all at c.loop-w.invariant) (λ l. absurd (omega arith))
