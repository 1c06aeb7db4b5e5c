-- `check_leaf` meets its contract: the tests of a leaf's own bytes, looked up by its kind.
use Prim.Native.Nat.{◌+◌}
use mathlib.Core.Path.{sym, ap, ◌∙◌}
use Rattle.sheet.specs.Kinds.{body_of}
use Rattle.std.specs.Prelude.{Err}
use native.Mathlib.Omega.{arith}
use Rattle.sheet_own.proofs.Nodes.{leaf-refused, leaf-cut, leaf_wrong, leaf-other, leaf_good, wire-below, joins-named}
use Rattle.sheet_own.proofs.check_leaf.Goals as goal

pub returns-then-sheet-at : goal.returns-then-sheet-at
returns-then-sheet-at c l =
    let start = c in
    let a = start.args in
    let p = start.requires in
    leaf-refused (leaf-cut l.inputs l.wires a.names.now a.sheet.now a.asked a.at a.count l.naming
    p.1 p.2 p.3 p.4
    (omega (arith, c.shared_slice_known-1.given (a.at + 1)))
    (omega (arith, c.body-body.ensures ∙ ap body_of c.of-kind.ensures, c.if-sheet-at.true)))
    (ap Err c.at.ensures)

pub returns-then-limit-named : goal.returns-then-limit-named
returns-then-limit-named c l =
    let start = c in
    let a = start.args in
    let p = start.requires in
    leaf-refused (leaf_wrong l.inputs l.wires a.names.now a.sheet.now a.asked a.at a.count l.naming
    p.1 p.2 p.3 p.4
    (omega (arith, c.shared_slice_known-1.given (a.at + 1)))
    (omega (arith, c.body-body.ensures ∙ ap body_of c.of-kind.ensures, c.if-sheet-at.false))
    (omega (arith, (rw c.of-kind.ensures at c.limit.ensures), c.if-limit-named.true)))
    (ap Err c.at-then-limit-named.ensures)

pub returns-then-type_of-asked : goal.returns-then-type_of-asked
returns-then-type_of-asked c l =
    let start = c in
    let a = start.args in
    let p = start.requires in
    leaf-refused (leaf-other l.inputs l.wires a.names.now a.sheet.now a.asked a.at a.count l.naming
    p.1 p.2 p.3 p.4
    (omega (arith, c.shared_slice_known-1.given (a.at + 1)))
    (omega (
      arith,
      c.body-body.ensures ∙ ap body_of c.of-kind.ensures,
      c.if-sheet-at.false,
    ))
    (omega (arith, (rw c.of-kind.ensures at c.limit.ensures), c.if-limit-named.false))
    (λ e. c.if-type_of-asked.true ((rw c.of-kind.ensures at c.type_of.ensures) ∙ e)))
    (ap Err c.at-then-type_of-asked.ensures)

pub with_named-grown-requires : goal.with_named-grown-requires
with_named-grown-requires c =
    let start = c in
    let a = start.args in
    let p = start.requires in
    let l = start.requires.0 in
    λ is. wire-below l.inputs l.wires a.names.now a.sheet.now a.asked a.at a.count l.naming p.1 p.2 p.3 p.4
    (omega (arith, c.shared_slice_known-1.given (a.at + 1)))
    (omega (
      arith,
      c.body-body.ensures ∙ ap body_of c.of-kind.ensures,
      c.if-sheet-at.false,
    ))
    (omega (arith, (rw c.of-kind.ensures at c.limit.ensures), c.if-limit-named.false))
    (sym c.of-kind.ensures ∙ is)

pub returns : goal.returns
returns c l =
    let start = c in
    let a = start.args in
    let p = start.requires in
    let good = leaf_good l.inputs l.wires a.names.now a.sheet.now a.asked a.at a.count l.naming
    p.1 p.2 p.3 p.4
    (omega (
      arith,
      c.shared_slice_known-1.given
          (a.at + 1),
    )) (omega (
      arith,
      c.body-body.ensures ∙ ap body_of c.of-kind.ensures,
      c.if-sheet-at.false,
    ))
    (omega (arith, (rw c.of-kind.ensures at c.limit.ensures), c.if-limit-named.false))
    (sym (rw c.of-kind.ensures at c.type_of.ensures) ∙ c.if-type_of-asked.false) in
    record {
      answers = rw (c.body-body.ensures ∙ ap body_of c.of-kind.ensures) good;
      reads =
          λ n k e. joins-named a.sheet.now a.at (rw c.of-kind.ensures at c.with_named-grown.ensures);
    }
