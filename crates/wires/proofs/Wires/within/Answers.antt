-- `Wires::within` meets its contract: just a set within the other adds nothing to it.
use Rattle.wires.proofs.Bits.{within-is}
use borrow.Author.Rules.{rules}
use Rattle.wires.proofs.Wires.within.Goals as goal

pub returns : goal.returns
returns c = within-is _ _ (search rules) (search rules)
