-- `rest` meets its contract.
use Rattle.storing.proofs.Resting.{arm-room, arm-anew, arm-still}
use Rattle.storing.proofs.rest.rest.Goals as goal

pub returns-then-fresh : goal.returns-then-fresh
returns-then-fresh c = λ p. rw c.if-fresh.true (arm-anew p (c.restart.ensures (arm-room p)))

pub returns-else-fresh : goal.returns-else-fresh
returns-else-fresh c = λ p. rw c.if-fresh.false (arm-still p (c.skip.ensures p.place))
