-- `Wires::minus` meets its contract: the and with the complement takes just the other set's wires away.
use Rattle.wires.proofs.Bits.{minus_is}
use borrow.Author.Rules.{rules}
use Rattle.wires.proofs.Wires.minus.Goals as goal

pub returns : goal.returns
returns c k = minus_is _ _ k (search rules) (search rules)
