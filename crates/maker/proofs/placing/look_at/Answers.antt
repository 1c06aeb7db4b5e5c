-- `look_at` meets its contract: of what the wire reads nothing is missing, or the lowest that is gets one more that waits for it.
use native.Mathlib.Omega.{arith}
use Rattle.maker.proofs.Laws.Queue.{looked_ready, looked_waits}
use Rattle.maker.proofs.Steps.{nothing-missing, something_missing}
use Rattle.maker.proofs.placing.look_at.Goals as goal

pub returns-in-None-clause-by_index : goal.returns-in-None-clause-by_index
returns-in-None-clause-by_index c =
    let none = rw c.into_iter.ensures.into_iter_gives at c.in-None.ensures.steps in
    λ reads_of n list left just holds here q.
    looked_ready reads_of n q _ here (nothing-missing _ (reads_of _) just holds c.minus-missing.ensures none) c.with.ensures

pub returns-in-Some-clause-by_index : goal.returns-in-Some-clause-by_index
returns-in-Some-clause-by_index c =
    let took = rw c.into_iter.ensures.into_iter_gives at c.in-Some.ensures.steps in
    λ reads_of n list left just holds here q.
    let missing = something_missing _ (reads_of _) just holds c.minus-missing.ensures _ took.present in
    looked_waits reads_of n q _ here _ _ (omega (arith, took.below, c.requires.1)) missing.0 missing.1 c.with-in-Some.ensures
