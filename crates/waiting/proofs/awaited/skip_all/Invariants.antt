-- `skip_all` meets its contract. The loop's invariant: the expressions ahead end where all of them do.
use Prim.Native.Nat.{ℕ, ◌-◌}
use Rattle.waiting.specs.Waiting.{Behind}
use Rattle.waiting.proofs.awaited.skip_all.Given as goal

abbrev pub invariant-loop-passed : goal.invariant-loop-passed
invariant-loop-passed l =
    (n j : ℕ) → Behind l.sheet l.count l.fn.here.at l.fn.here.cell n j → Behind l.sheet (l.count - l._passed) l.end.at l.end.cell n j
