-- `gather` meets its contract: at first the table is empty.
use mathlib.Core.Path.{refl}
use Rattle.readers.proofs.Gathering.{none-gathered}
use Rattle.readers.proofs.gather.Goals as goal

pub loop-wire-init : goal.loop-wire-init
loop-wire-init c = (refl, none-gathered c.requires.2)
