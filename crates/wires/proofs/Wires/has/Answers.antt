-- `Wires::has` meets its contract: the bit at `wire`, shifted down and masked, is the test of membership.
use Rattle.wires.proofs.Bits.{has-is}
use Rattle.wires.proofs.Wires.has.Goals as goal

pub returns : goal.returns
returns c = has-is _ _
