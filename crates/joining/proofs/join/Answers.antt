-- `join` meets its contract: the refusal of the first sheet, that of the second, or what the two come to.
use Rattle.std.proofs.lemmas.Result.{err_from_is_err_and}
use mathlib.Core.Path.{sym, ◌∙◌}
use Rattle.join.specs.declared.NotJoined.TheVariants.{First, Second}
use Rattle.joining.proofs.Answering.{made-of, taken-of, first_stops, second-stops}
use Rattle.joining.proofs.join.Goals as goal

pub returns-in_err-counts : goal.returns-in_err-counts
returns-in_err-counts c =
    let p = err_from_is_err_and c.from_residual.result c.from_residual.ensures.1 in
    let (refused, made, is) = made-of First c.check.result c.in_err-counts.ensures.cases in
    rw (p.1, p.2, made) (first_stops _ _ _ (sym c.check.ensures ∙ is))

pub returns-in_err-others : goal.returns-in_err-others
returns-in_err-others c =
    let p = err_from_is_err_and c.from_residual-in_err-others.result c.from_residual-in_err-others.ensures.1 in
    let (refused, made, is) = made-of Second c.check-2.result c.in_err-others.ensures.cases in
    let first = taken-of First c.check.result c.in_ok-counts.ensures.cases in
    rw (p.1, p.2, made) (second-stops _ (sym c.check.ensures ∙ first) _ _ (sym c.check-2.ensures ∙ is))
