-- `equal` tells whether two numbers are the same.
use Rattle.numbers.proofs.Bits.{same}
use Rattle.numbers.proofs.equal.Goals as goal

pub returns : goal.returns
returns c = same _ _ c.ranges.a c.ranges.b
