-- `check_whole` meets its contract: as `check_operand`, with a level that is left.
use Rattle.std.proofs.Common.{rules, ◌<◌, get_or}
use native.Mathlib.Omega.{arith}
use Rattle.sheet_expressions.proofs.Noting.{leaf-bare, bare_checks}
use Rattle.sheet_expressions.proofs.check_whole.Goals as goal

pub returns : goal.returns
returns c = λ l.
    let a = c.args in
    let few : get_or a.sheet.now.now a.at 0 < 4 = search rules in
    bare_checks l.inputs l.wires a.sheet.now.now 16 a.asked a.at a.count (omega arith)
    c.if-sheet-at.false (leaf-bare _ few)
    (c.check_leaf.ensures l)
