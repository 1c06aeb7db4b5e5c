-- `set_of` meets its contract.
use mathlib.Core.Path.{sym, ◌∙◌}
use Rattle.waiting.proofs.Relating.{known-row, standing, unknown-row}
use Rattle.waiting.proofs.set_of.Goals as goal

pub returns-then-has : goal.returns-then-has
returns-then-has c =
    λ u. known-row u c.args.wire c.requires.1 (sym c.has.ensures ∙ c.if-has.true) _ c.none.ensures

pub awaited-requires : goal.awaited-requires
awaited-requires c =
    (_, standing c.requires.0 c.args.wire c.requires.1 c.place_of-here.ensures)

pub returns : goal.returns
returns c =
    λ u. let stands = c.place_of-here.ensures in
    unknown-row u c.args.wire c.requires.1 (sym c.has.ensures ∙ c.if-has.false) stands
    (c.awaited.ensures _ (standing u c.args.wire c.requires.1 stands))
