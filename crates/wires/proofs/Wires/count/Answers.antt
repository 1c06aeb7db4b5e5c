-- `Wires::count` meets its contract: the number of ones is the number of members.
use Rattle.wires.proofs.Bits.{count-is}
use borrow.Author.Rules.{rules}
use Rattle.wires.proofs.Wires.count.Goals as goal

pub returns : goal.returns
returns c = count-is _ (search rules)
