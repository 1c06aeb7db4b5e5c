-- `Wires::none` meets its contract: no bit of 0 is 1.
use Rattle.wires.specs.Laws.{none_in}
use Rattle.wires.proofs.Wires.none.Goals as goal

pub returns : goal.returns
returns c = none_in
