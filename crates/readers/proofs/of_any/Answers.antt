-- `of_any` meets its contract: no wire is left.
use Rattle.readers.proofs.Gathering.{all_collected}
use Rattle.readers.proofs.of_any.Goals as goal

pub returns : goal.returns
returns c =
    rw c.into_iter-source-iterator.ensures.into_iter_gives at (all_collected c.loop-source.invariant c.in-None.ensures.steps)
