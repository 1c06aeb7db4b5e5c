-- `value_of_wire` meets its contract.
use mathlib.Core.Path.{sym, ap, ◌∙◌}
use Rattle.kernel.specs.declared.Value.TheVariants.{Known}
use Rattle.expression.proofs.Values.{as_known, as_unknown}
use Rattle.expression.proofs.value_of_wire.Goals as goal

pub returns-in-Some : goal.returns-in-Some
returns-in-Some c =
    λ p. ap Known c.datum_of.ensures ∙ rw c.plain.ensures (sym (as_known (c.value_whole.ensures _ p) c.in-Some.is).value)

pub returns-in-None : goal.returns-in-None
returns-in-None c = λ p. sym (as_unknown (c.value_whole.ensures _ p) c.in-None.is)
