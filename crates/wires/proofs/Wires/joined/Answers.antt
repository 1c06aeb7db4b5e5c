-- `Wires::joined` meets its contract: the or of two sets has the members of both.
use Rattle.wires.proofs.Bits.{or-member}
use Rattle.wires.proofs.Wires.joined.Goals as goal

pub returns : goal.returns
returns c k = or-member _ _ k
