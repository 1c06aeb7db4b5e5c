-- `Wires::lowest` meets its contract: the zeros below the lowest one are the wires below the lowest of the set.
use Rattle.wires.proofs.Bits.{lowest-present-is}
use borrow.Author.Rules.{rules}
use Rattle.wires.proofs.Wires.lowest.Goals as goal

pub returns : goal.returns
returns c = lowest-present-is _ (search rules)
