-- `both` meets its contract: demand 3 of what the two calls leave side by side.
use Rattle.agreement.proofs.Agreeing.{beside, agreed}
use Rattle.agreement.proofs.both.Goals as goal

pub returns-in-Ok-Ok-clause-agreed : goal.returns-in-Ok-Ok-clause-agreed
returns-in-Ok-Ok-clause-agreed c =
    agreed (beside c.instant-in_turn.ensures c.instant-along.ensures (rw (c.in-Ok-Ok.is-0, c.in-Ok-Ok.is-1)))

pub returns-in_default-clause-agreed : goal.returns-in_default-clause-agreed
returns-in_default-clause-agreed c =
    agreed (beside c.instant-in_turn.ensures c.instant-along.ensures (rw (c.in_default.is-0, c.in_default.is-1)))

pub returns-in_default-2-clause-agreed : goal.returns-in_default-2-clause-agreed
returns-in_default-2-clause-agreed c =
    agreed (beside c.instant-in_turn.ensures c.instant-along.ensures (rw c.in_default.is-0))
