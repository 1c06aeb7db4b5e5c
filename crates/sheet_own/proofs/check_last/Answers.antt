-- `check_last` meets its contract: the tests of the own bytes of kind 18.
use Prim.Native.Nat.{◌+◌}
use mathlib.Core.Bool.{not}
use mathlib.Core.Path.{sym, ap, ◌∙◌}
use Rattle.std.specs.Prelude.{Err}
use native.Mathlib.Omega.{arith}
use Rattle.sheet_own.proofs.Last.{last-cut, last_unkept, last-other, last_good}
use Rattle.sheet_own.proofs.check_last.Goals as goal

pub returns-then-sheet-at-le1 : goal.returns-then-sheet-at-le1
returns-then-sheet-at-le1 c l =
    let start = c in
    let a = start.args in
    let p = start.requires in
    ap Err c.at.ensures
    ∙ last-cut l.inputs l.wires a.names.now a.sheet.now a.asked a.at a.count l.naming p.2 p.3 p.4
    (omega (arith, c.shared_slice_known-1.given (a.at + 1))) (omega (arith, c.if-sheet-at-le1.true))

pub returns-then-not-is_kept : goal.returns-then-not-is_kept
returns-then-not-is_kept c l =
    let start = c in
    let a = start.args in
    let p = start.requires in
    ap Err c.at-then-not-is_kept.ensures
    ∙ last_unkept l.inputs l.wires a.names.now a.sheet.now a.asked a.at a.count l.naming p.2 p.3 p.4
    (omega (arith, c.shared_slice_known-1.given (a.at + 1)))
    (omega (arith, c.if-sheet-at-le1.false)) c.is_kept.ensures (ap not c.if-not-is_kept.true)

pub returns-then-type_of-asked : goal.returns-then-type_of-asked
returns-then-type_of-asked c l =
    let start = c in
    let a = start.args in
    let p = start.requires in
    ap Err c.at-then-type_of-asked.ensures
    ∙ last-other l.inputs l.wires a.names.now a.sheet.now a.asked a.at a.count l.naming p.2 p.3 p.4
    (omega (arith, c.shared_slice_known-1.given (a.at + 1)))
    (omega (arith, c.if-sheet-at-le1.false))
    c.is_kept.ensures (ap not c.if-not-is_kept.false)
    (λ e. c.if-type_of-asked.true (c.type_of.ensures ∙ e))

pub returns : goal.returns
returns c l =
    let start = c in
    let a = start.args in
    let p = start.requires in
    last_good l.inputs l.wires a.names.now a.sheet.now a.asked a.at a.count l.naming p.2 p.3 p.4
    (omega (arith, c.shared_slice_known-1.given (a.at + 1)))
    (omega (arith, c.if-sheet-at-le1.false))
    c.is_kept.ensures (ap not c.if-not-is_kept.false)
    (sym c.type_of.ensures ∙ c.if-type_of-asked.false)
