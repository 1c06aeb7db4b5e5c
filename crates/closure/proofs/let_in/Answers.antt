-- `let_in` meets its contract: a wire that leads nowhere adds nothing.
use mathlib.Core.Path.{refl}
use Rattle.closure.proofs.Turns.{no-turn}
use Rattle.closure.proofs.let_in.Goals as goal

pub returns-then-own-eq0-clause-by_index : goal.returns-then-own-eq0-clause-by_index
returns-then-own-eq0-clause-by_index c = no-turn c.requires.0 refl c.if-own-eq0.true
