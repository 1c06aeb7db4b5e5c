-- `Wires::without` meets its contract: the and with the complement of one bit takes just that wire away.
use Rattle.wires.proofs.Bits.{without_is}
use borrow.Author.Rules.{rules}
use Rattle.wires.proofs.Wires.without.Goals as goal

pub returns : goal.returns
returns c k = without_is _ _ k (search rules) (search rules)
