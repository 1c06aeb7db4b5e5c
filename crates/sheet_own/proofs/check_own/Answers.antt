-- `check_own` meets its contract: an expression without a cell has no body, and one with a cell is `check_cell`'s.
use Rattle.std.proofs.Common.{rules, ◌<◌, get_or, sym}
use Rattle.sheet_own.proofs.Nodes.{plain-own}
use Rattle.sheet_own.proofs.check_own.Goals as goal

pub returns-in_default : goal.returns-in_default
returns-in_default c = λ inputs wires asked.
    let a = c.args in
    let p = c.requires.at_in_bounds in
    let cellless : get_or a.sheet.now a.at 0 < 15 = search rules in
    sym (plain-own inputs wires a.sheet.now asked a.at a.count p.0 p.1 cellless p.2)
