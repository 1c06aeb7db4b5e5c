-- `check_one`, `check_node`, `check_operand` and `check_operands` meet their contracts.
use Rattle.std.proofs.Common.{rules, ℕ, ◌<◌, ◌≤◌, ◌≡◌, sym, ap, ◌∙◌, List, arith, length, get_or}
use mathlib.Core.Bool.{not}
use lib.ListN.{drop_of_length-le}
use Rattle.sheet.specs.Kinds.{kind_count, count_of, operands_of}
use Rattle.sheet.specs.KindBytes.{byte_of}
use Rattle.sheet.proofs.Table.{byte_few}
use borrow.Author.Tests.{ltb-true}
use Rattle.sheet.specs.Readings.{got_at, read_each, own_of, body_from, read_expression}
use Rattle.sheet.specs.Laws.Readings.{own_good, operands-counted}
use Rattle.sheet_names.specs.Naming.{ahead_in}
use Rattle.sheet_own.specs.Own.{then_type}
use Rattle.sheet_own.proofs.Nodes.{owner-cells}
use Rattle.sheet_expressions.specs.Map.{NodeAt}
use Rattle.sheet_expressions.proofs.Steps.{each_good, each-refused, own-missing, own-unknown, own-deep, own-passed}
use Rattle.sheet_expressions.proofs.Steps.{type_wrong, type-right}
use Rattle.sheet_expressions.proofs.Noting.{refused_checks, own-stops, extent, left_step, left-none, whole_checks}
use Rattle.sheet_expressions.proofs.Noting.{leaf-bare, bare_checks, last_checks}
use Rattle.sheet_expressions.proofs.+checking.Goals as goal
use Rattle.sheet.specs.declared.Got.{Got}
use Rattle.sheet.specs.declared.Refused.{Refused}
use Rattle.std.specs.Prelude.{refl, Result, Ok, Err}
use Rattle.std.proofs.lemmas.Result.{err_from_is_err_and}

-- what an expression's own bytes show
node_is : (inputs wires s : List ℕ) (level t at c : ℕ) (answer : Result Got Refused) → NodeAt s level t at c
    → then_type (get_or s at 0) t at answer ≡ body_from inputs wires s t at c
    → own_of inputs wires s level t at c ≡ then_type (get_or s at 0) t at answer
node_is inputs wires s level t at c answer n e = own-passed inputs wires s t at c level n.byte n.kind.known n.levels ∙ sym e

pub check_node-returns-in_err-own : goal.check_node-returns-in_err-own
check_node-returns-in_err-own t c = λ l.
    let a = c.args in
    let p = err_from_is_err_and c.from_residual.result c.from_residual.ensures.1 in
    own-stops l.inputs l.wires a.sheet.now.now a.level a.asked a.at a.count (rw (p.1, p.2))
    (node_is l.inputs l.wires a.sheet.now.now a.level a.asked a.at a.count (Err c.in_err-own.field-0.0) c.requires.1
    (c.in_err-own.ensures l.inputs l.wires a.asked))

pub check_node-returns-then-not-fits : goal.check_node-returns-then-not-fits
check_node-returns-then-not-fits t c = λ l.
    let a = c.args in
    own-stops l.inputs l.wires a.sheet.now.now a.level a.asked a.at a.count (ap Err c.at.ensures)
    (node_is l.inputs l.wires a.sheet.now.now a.level a.asked a.at a.count (Ok c.in_ok-own.own) c.requires.1
    (c.in_ok-own.ensures l.inputs l.wires a.asked)
    ∙ type_wrong (get_or a.sheet.now.now a.at 0) a.asked a.at _ _ (rw c.of-kind.ensures at c.fits.ensures) (ap not c.if-not-fits.true))

pub check_node-note_own-requires : goal.check_node-note_own-requires
check_node-note_own-requires t c =
    let n = c.requires.1 in
    let l = c.requires.0 in
    let a = c.args in
    let own = node_is l.inputs l.wires a.sheet.now.now a.level a.asked a.at a.count (Ok c.in_ok-own.own) n
    (c.in_ok-own.ensures l.inputs l.wires a.asked)
    ∙ type-right (get_or a.sheet.now.now a.at 0) a.asked a.at _ _ (rw c.of-kind.ensures at c.fits.ensures) (ap not c.if-not-fits.false) in
    let g = own_good l.inputs l.wires a.sheet.now.now a.level a.asked a.at a.count own in
    rw c.of-kind.ensures (n.kind, n.asked, omega (arith, n.byte, n.few), λ e. omega (arith, g.cells, owner-cells _ e n.kind))

pub check_node-check_operands-requires : goal.check_node-check_operands-requires
check_node-check_operands-requires t c =
    let n = c.requires.1 in
    let l = c.requires.0 in
    let a = c.args in
    let own = node_is l.inputs l.wires a.sheet.now.now a.level a.asked a.at a.count (Ok c.in_ok-own.own) n
    (c.in_ok-own.ensures l.inputs l.wires a.asked)
    ∙ type-right (get_or a.sheet.now.now a.at 0) a.asked a.at _ _ (rw c.of-kind.ensures at c.fits.ensures) (ap not c.if-not-fits.false) in
    let g = own_good l.inputs l.wires a.sheet.now.now a.level a.asked a.at a.count own in (
      omega (arith, n.levels),
      (
        l,
        n.asked,
        omega (arith, g.cells, g.count),
        n.few,
        omega (arith, g.count, c.requires.2),
      ),
    )

pub check_node-returns : goal.check_node-returns
check_node-returns t c = λ l.
    let a = c.args in
    let n = c.requires.1 in
    let own = node_is l.inputs l.wires a.sheet.now.now a.level a.asked a.at a.count (Ok c.in_ok-own.own) n
    (c.in_ok-own.ensures l.inputs l.wires a.asked)
    ∙ type-right (get_or a.sheet.now.now a.at 0) a.asked a.at _ _ (rw c.of-kind.ensures at c.fits.ensures) (ap not c.if-not-fits.false) in
    whole_checks l.inputs l.wires a.sheet.now.now (ahead_in a.names.now) a.level a.asked a.at a.count n.asked
    n.few c.requires.2 n.kind.no-leaf own
    (rw (c.ahead.ensures, c.of-kind.ensures) at c.note_own.ensures)
    (rw c.of-kind.ensures at (c.check_operands.ensures l))

pub check_one-returns-then-sheet-at : goal.check_one-returns-then-sheet-at
check_one-returns-then-sheet-at t c = λ l.
    let a = c.args in
    own-stops l.inputs l.wires a.sheet.now.now a.level a.asked a.at a.count (ap Err c.at.ensures)
    (own-missing l.inputs l.wires a.sheet.now.now a.asked a.at a.count a.level c.if-sheet-at.true)

pub check_operand-returns : goal.check_operand-returns
check_operand-returns t c = λ l.
    let a = c.args in
    let few : get_or a.sheet.now.now a.at 0 < 4 = search rules in
    bare_checks l.inputs l.wires a.sheet.now.now a.level a.asked a.at a.count
    (omega (arith, c.if-level-eq0.false)) c.if-sheet-at.false (leaf-bare _ few) (c.check_leaf.ensures l)

pub check_operands-returns-in_err-one : goal.check_operands-returns-in_err-one
check_operands-returns-in_err-one t c = λ l.
    let a = c.args in
    let o = c.loop-i in
    let p = err_from_is_err_and c.from_residual.result c.from_residual.ensures.1 in
    let here : o.i < count_of (byte_of a.kind) = omega (arith, c.operands-operands.ensures, c.loop-i-test.true) in
    let is : c.operand_type-asked_here.result ≡ get_or (operands_of (byte_of a.kind) a.asked) o.i 0
    = c.operand_type-asked_here.ensures ∙ c.operand_types-types.ensures o.i here in
    let more : o.i < length (operands_of (byte_of a.kind) a.asked) = omega (arith, operands-counted a.asked (byte_of a.kind) (byte_few a.kind)) in
    let read = read_expression l.inputs l.wires a.sheet.now.now a.level in
    let one = rw is at (c.in_err-one.ensures l) in
    rw (p.1, p.2) (refused_checks (each-refused read (operands_of (byte_of a.kind) a.asked) o.i o.next o.behind more (sym one.answers)
    ∙ (o.invariant.2 l).0))

pub check_operands-loop-i-preserved : goal.check_operands-loop-i-preserved
check_operands-loop-i-preserved t c =
    let a = c.args in
    let o = c.loop-i in
    let got-it : Ok c.in_ok-one.one ≡ got_at c.in_ok-one.one.next c.in_ok-one.one.count = refl in
    let here : o.i < count_of (byte_of a.kind) = omega (arith, c.operands-operands.ensures, c.loop-i-test.true) in
    let is : c.operand_type-asked_here.result ≡ get_or (operands_of (byte_of a.kind) a.asked) o.i 0
    = c.operand_type-asked_here.ensures ∙ c.operand_types-types.ensures o.i here in
    let more : o.i < length (operands_of (byte_of a.kind) a.asked) = omega (arith, operands-counted a.asked (byte_of a.kind) (byte_few a.kind)) in
    let l = c.requires.0 in
    let read_one = extent l.inputs l.wires a.sheet.now.now a.level _ o.next o.behind (c.in_ok-one.ensures l) got-it in (
      read_one.1.limited,
      omega (arith, read_one.1.counted, o.invariant.1),
      λ l.
          let read = read_expression l.inputs l.wires a.sheet.now.now a.level in
          let one = rw is at (c.in_ok-one.ensures l) in (
            each_good read (operands_of (byte_of a.kind) a.asked) o.i o.next o.behind more (sym one.answers ∙ got-it)
                ∙ (o.invariant.2 l).0,
            λ es n k r. rw c.either.ensures (left_step l.inputs l.wires a.sheet.now.now a.level
                (ahead_in a.names.now) (operands_of (byte_of a.kind) a.asked) _ o.i o.next o.behind
                more o.invariant.1 got-it one ((o.invariant.2 l).1 es n k r)),
          ),
    )

pub check_operands-returns : goal.check_operands-returns
unfolding read_each
check_operands-returns t c = λ l.
    let a = c.args in
    let o = c.loop-i in
    let over : length (operands_of (byte_of a.kind) a.asked) ≤ o.i =
    omega (arith, operands-counted a.asked (byte_of a.kind) (byte_few a.kind), c.operands-operands.ensures, c.loop-i-test.false) in
    record {
      answers = rw (drop_of_length-le (operands_of (byte_of a.kind) a.asked) over) at (o.invariant.2 l).0;
      cells = λ es n k e. (left-none l.inputs l.wires a.sheet.now.now a.level (ahead_in a.names.now)
          (operands_of (byte_of a.kind) a.asked) o.i o.next o.behind over ((o.invariant.2 l).1 es n k e)).0;
      reads = λ es n k e. rw c.read_operands-counted.ensures at (left-none l.inputs l.wires a.sheet.now.now
          a.level (ahead_in a.names.now) (operands_of (byte_of a.kind) a.asked) o.i o.next o.behind over
          ((o.invariant.2 l).1 es n k e)).1;
    }

pub check_one-returns-in_default : goal.check_one-returns-in_default
check_one-returns-in_default t c = λ l.
    let a = c.args in
    own-stops l.inputs l.wires a.sheet.now.now a.level a.asked a.at a.count (ap Err c.at-in_default.ensures)
    (own-unknown l.inputs l.wires a.sheet.now.now a.asked a.at a.count a.level c.if-sheet-at.false c.in_default.ensures.1)

pub check_one-returns-then-level-eq0 : goal.check_one-returns-then-level-eq0
check_one-returns-then-level-eq0 t c = λ l.
    let a = c.args in
    let known : get_or a.sheet.now.now a.at 0 < kind_count = rw (← c.in-Ok.ensures) (byte_few c.in-Ok.kind) in
    own-stops l.inputs l.wires a.sheet.now.now a.level a.asked a.at a.count (ap Err c.at-then-level-eq0.ensures)
    (own-deep l.inputs l.wires a.sheet.now.now a.asked a.at a.count a.level c.if-sheet-at.false known c.if-level-eq0.true)

pub check_one-returns-then-is_leaf : goal.check_one-returns-then-is_leaf
check_one-returns-then-is_leaf t c = λ l.
    let a = c.args in
    let few : get_or a.sheet.now.now a.at 0 < 4 = rw (← c.in-Ok.ensures) (ltb-true _ _ (sym c.if-is_leaf.ensures)) in
    bare_checks l.inputs l.wires a.sheet.now.now a.level a.asked a.at a.count
    (omega (arith, c.if-level-eq0.false)) c.if-sheet-at.false (leaf-bare _ few) (c.check_leaf.ensures l)

pub check_one-returns-in-Last : goal.check_one-returns-in-Last
check_one-returns-in-Last t c = λ l.
    let a = c.args in
    last_checks l.inputs l.wires a.sheet.now.now a.level a.asked a.at a.count
    (omega (arith, c.if-level-eq0.false)) c.if-sheet-at.false (sym c.in-Ok.ensures ∙ ap byte_of c.in-Last.is) (c.check_last.ensures l)
