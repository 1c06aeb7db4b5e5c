-- `Wires::common` meets its contract: the and has just the digits of both.
use Rattle.wires.proofs.Bits.{and-member}
use Rattle.wires.proofs.Wires.common.Goals as goal

pub returns : goal.returns
returns c k = and-member _ _ k
