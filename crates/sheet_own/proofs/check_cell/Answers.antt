-- `check_cell` meets its contract: the tests of an owner's own bytes but for its type.
use mathlib.Core.Path.{ap, ◌∙◌}
use Rattle.sheet.specs.Kinds.{body_of}
use native.Mathlib.Omega.{arith}
use Rattle.sheet_own.proofs.Nodes.{owner-full, owner-cut, owner_wrong, owner_good}
use Rattle.sheet_own.proofs.check_cell.Goals as goal

pub returns-then-count-ge64 : goal.returns-then-count-ge64
returns-then-count-ge64 c inputs wires t =
    let start = c in
    let a = start.args in
    let p = start.requires in
    rw c.at.ensures (owner-full inputs wires a.sheet.now t a.at a.count p.0 p.1 p.2 c.if-count-ge64.true)

pub returns-then-sheet-at : goal.returns-then-sheet-at
returns-then-sheet-at c inputs wires t =
    let start = c in
    let a = start.args in
    let p = start.requires in
    rw c.at-then-sheet-at.ensures (owner-cut inputs wires a.sheet.now t a.at a.count p.0 p.1 p.2
    (omega (arith, c.if-count-ge64.false))
    (omega (arith, c.body-body.ensures ∙ ap body_of c.of.ensures, c.if-sheet-at.true)))

pub returns-then-named_at-gt1 : goal.returns-then-named_at-gt1
returns-then-named_at-gt1 c inputs wires t =
    let start = c in
    let a = start.args in
    let p = start.requires in
    rw c.at-then-named_at-gt1.ensures (owner_wrong inputs wires a.sheet.now t a.at a.count p.0 p.1 p.2
    (omega (arith, c.if-count-ge64.false))
    (omega (arith, c.body-body.ensures ∙ ap body_of c.of.ensures, c.if-sheet-at.false))
    (omega (arith, c.named_at.ensures, c.if-named_at-gt1.true)))

pub returns : goal.returns
returns c inputs wires t =
    let start = c in
    let a = start.args in
    let p = start.requires in
    rw (c.body-body.ensures ∙ ap body_of c.of.ensures)
    (owner_good inputs wires a.sheet.now t a.at a.count p.0 p.1 p.2
    (omega (arith, c.if-count-ge64.false))
    (omega (arith, c.body-body.ensures ∙ ap body_of c.of.ensures, c.if-sheet-at.false))
    (omega (arith, c.named_at.ensures, c.if-named_at-gt1.false)))
