-- `Wires::with` meets its contract: the or with one bit adds just that wire.
use Rattle.wires.proofs.Bits.{with_is}
use borrow.Author.Rules.{rules}
use Rattle.wires.proofs.Wires.with.Goals as goal

pub returns : goal.returns
returns c k = with_is _ _ k (search rules)
