-- `refused_line` meets its contract.
use Rattle.play.proofs.refused_line.Goals as goal

pub returns : goal.returns
returns c = rw c.number.ensures at c.refused_line.ensures
