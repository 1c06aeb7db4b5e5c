-- `first_instant` meets its contract.
use Rattle.play.proofs.first_instant.Goals as goal

pub returns : goal.returns
returns c = rw c.instants_due.ensures
