-- `Wires::end` meets its contract: only zeros stand above the highest wire of the set.
use Rattle.wires.proofs.Bits.{end_is}
use borrow.Author.Rules.{rules}
use Rattle.wires.proofs.Wires.end.Goals as goal

pub returns : goal.returns
returns c = end_is _ (search rules)
