-- `instants_due` meets its contract: by whether a row has bytes.
use borrow.Author.Tests.{eq-eqb, ne_eqb}
use Rattle.play.proofs.instants_due.Goals as goal

pub returns-then-size-eq0 : goal.returns-then-size-eq0
returns-then-size-eq0 c = simp (eq-eqb c.args.size 0 c.if-size-eq0.true)

pub returns-else-size-eq0 : goal.returns-else-size-eq0
returns-else-size-eq0 c = simp (ne_eqb c.args.size 0 c.if-size-eq0.false)
