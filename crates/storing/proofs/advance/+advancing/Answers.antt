-- The functions that advance an expression meet their contracts. The level falls from an expression to its operands; an expression
-- goes by its kind at the same level, if it is no leaf.
use mathlib.Core.Path.{sym, ap, ◌∙◌}
use native.Mathlib.Omega.{arith}
use Rattle.expression.proofs.Views.{opened, whole, leaf-of, last_of, own-cell, state-cell, leaf-few}
use Rattle.expression.proofs.Views.{unary-view, binary-view, conditional-view, present-view, reset-view, pre-view, fby-view}
use borrow.Author.Tests.{ltb-true}
use Rattle.sheet.specs.Kinds.{body_of}
use Rattle.sheet.specs.KindBytes.{byte_of}
use Rattle.storing.proofs.Steps.{deeper, deeper_by_kind, one-ready, two_ready, two-ready_2, three-ready, three-ready_2, three-ready_3}
use Rattle.storing.proofs.Steps.{three-arm_2, three-arm_3, rest-ready_3}
use Rattle.storing.proofs.Advancing.{leaf_advances, last_advances, unary_advances, binary_advances, conditional_advances}
use Rattle.storing.proofs.Advancing.{present_advances_first, present_advances_second, reset_advances, pre_advances, fby_advances}
use Rattle.storing.proofs.Machines.{first_condition_lem, condition_ready, second_condition_lem, first_body_lem, body-ready, second-body}
use Rattle.storing.proofs.Machines.{machine_advances}
use Rattle.storing.proofs.advance.+advancing.Goals as goal

pub advance_conditional-overflow_sub-below : goal.advance_conditional-overflow_sub-below
advance_conditional-overflow_sub-below t c = (opened c.requires.ready.place).level-left

pub advance_conditional-advance_expression-condition-requires : goal.advance_conditional-advance_expression-condition-requires
advance_conditional-advance_expression-condition-requires t c =
    let p = c.requires.ready in
    let w = conditional-view p.place c.requires.at_value in
    (deeper p c.decreases, three-ready p w)

pub advance_conditional-advance_expression-then-requires : goal.advance_conditional-advance_expression-then-requires
advance_conditional-advance_expression-then-requires t c =
    let p = c.requires.ready in
    let w = conditional-view p.place c.requires.at_value in
    (deeper p c.decreases, three-ready_2 p w c.advance_expression-condition.ensures)

pub advance_conditional-advance_expression-otherwise-requires : goal.advance_conditional-advance_expression-otherwise-requires
advance_conditional-advance_expression-otherwise-requires t c =
    let p = c.requires.ready in
    let w = conditional-view p.place c.requires.at_value in (
      deeper p c.decreases,
      three-ready_3 p w
          c.advance_expression-condition.ensures c.advance_expression-then.ensures,
    )

pub advance_conditional-returns : goal.advance_conditional-returns
advance_conditional-returns t c =
    λ p. conditional_advances p c.args.fresh c.requires.at_value
    c.advance_expression-condition.ensures c.advance_expression-then.ensures c.advance_expression-otherwise.ensures
    c.choose.ensures

pub advance_by_kind-bounds-fixed-here : goal.advance_by_kind-bounds-fixed-here
advance_by_kind-bounds-fixed-here t c = (opened c.requires.place).good.starts

pub advance_fby-overflow_sub-below : goal.advance_fby-overflow_sub-below
advance_fby-overflow_sub-below t c = (opened c.requires.ready.place).level-left

pub advance_fby-overflow_add-first-2 : goal.advance_fby-overflow_add-first-2
advance_fby-overflow_add-first-2 t c = omega (arith, (opened c.requires.ready.place).good.cells)

pub advance_fby-is_seen-seen-requires : goal.advance_fby-is_seen-seen-requires
advance_fby-is_seen-seen-requires t c =
    let p = c.requires.ready.place in
    (own-cell p (omega (arith, c.requires.at_value)) (omega (arith, c.requires.at_value))).stands.fits

pub advance_fby-word_in-held-requires : goal.advance_fby-word_in-held-requires
advance_fby-word_in-held-requires t c =
    let p = c.requires.ready.place in
    (own-cell p (omega (arith, c.requires.at_value)) (omega (arith, c.requires.at_value))).stands.fits

pub advance_fby-advance_expression-left-requires : goal.advance_fby-advance_expression-left-requires
advance_fby-advance_expression-left-requires t c =
    let p = c.requires.ready in
    let w = fby-view p.place c.requires.at_value in
    (deeper p c.decreases, two_ready p w)

pub advance_fby-advance_expression-right-requires : goal.advance_fby-advance_expression-right-requires
advance_fby-advance_expression-right-requires t c =
    let p = c.requires.ready in
    let w = fby-view p.place c.requires.at_value in
    (deeper p c.decreases, two-ready_2 p w c.advance_expression-left.ensures)

pub advance_fby-put_cell-requires : goal.advance_fby-put_cell-requires
advance_fby-put_cell-requires t c =
    let p = c.requires.ready.place in
    let own = own-cell p (omega (arith, c.requires.at_value)) (omega (arith, c.requires.at_value)) in
    omega (arith, own.stands.fits, c.advance_expression-right.auto.memory, c.advance_expression-left.auto.memory)

pub advance_fby-returns : goal.advance_fby-returns
advance_fby-returns t c =
    λ p. fby_advances p c.args.fresh c.requires.at_value
    c.is_seen-seen.ensures c.word_in-held.ensures c.advance_expression-left.ensures c.advance_expression-right.ensures
    c.datum_of.ensures c.put_cell.ensures c.choose.ensures

pub advance_machine-overflow_sub-below : goal.advance_machine-overflow_sub-below
advance_machine-overflow_sub-below t c = (opened c.requires.ready.place).level-left

pub advance_machine-overflow_add-first-2 : goal.advance_machine-overflow_add-first-2
advance_machine-overflow_add-first-2 t c = omega (arith, (opened c.requires.ready.place).good.cells)

pub advance_machine-is_second_state-state-requires : goal.advance_machine-is_second_state-state-requires
advance_machine-is_second_state-state-requires t c = (state-cell c.requires.ready.place c.requires.at_value).stands.fits

pub advance_machine-rest_if-start-requires : goal.advance_machine-rest_if-start-requires
advance_machine-rest_if-start-requires t c = λ holds. first_condition_lem c.requires.ready c.args.fresh c.requires.at_value c.is_second_state-state.ensures

pub advance_machine-advance_expression-condition-requires : goal.advance_machine-advance_expression-condition-requires
advance_machine-advance_expression-condition-requires t c =
    let p = c.requires.ready in (
      deeper p c.decreases,
      condition_ready p c.args.fresh c.requires.at_value c.is_second_state-state.ensures c.rest_if-start.ensures,
    )

pub advance_machine-rest_if-bodies-requires : goal.advance_machine-rest_if-bodies-requires
advance_machine-rest_if-bodies-requires t c =
    second_condition_lem c.requires.ready c.args.fresh c.requires.at_value c.is_second_state-state.ensures
    c.rest_if-start.ensures c.advance_expression-condition.ensures

pub advance_machine-rest_if-run-requires : goal.advance_machine-rest_if-run-requires
advance_machine-rest_if-run-requires t c =
    λ holds. first_body_lem c.requires.ready c.args.fresh c.requires.at_value c.is_second_state-state.ensures
    c.rest_if-start.ensures c.advance_expression-condition.ensures c.rest_if-bodies.ensures

pub advance_machine-advance_by_kind-body-requires : goal.advance_machine-advance_by_kind-body-requires
advance_machine-advance_by_kind-body-requires t c =
    let p = c.requires.ready in (
      deeper_by_kind p c.decreases,
      body-ready p c.args.fresh c.requires.at_value c.is_second_state-state.ensures
          c.rest_if-start.ensures c.advance_expression-condition.ensures c.rest_if-bodies.ensures c.rest_if-run.ensures,
    )

pub advance_machine-rest_if-end-requires : goal.advance_machine-rest_if-end-requires
advance_machine-rest_if-end-requires t c =
    second-body c.requires.ready c.args.fresh c.requires.at_value c.is_second_state-state.ensures
    c.rest_if-start.ensures c.advance_expression-condition.ensures c.rest_if-bodies.ensures c.rest_if-run.ensures
    c.advance_by_kind-body.ensures

pub advance_machine-put_cell-requires : goal.advance_machine-put_cell-requires
advance_machine-put_cell-requires t c =
    let own = state-cell c.requires.ready.place c.requires.at_value in
    omega (
      arith,
      own.stands.fits,
      c.rest_if-end.auto.memory,
      c.advance_by_kind-body.auto.memory,
      c.rest_if-run.auto.memory,
      c.rest_if-bodies.auto.memory,
      c.advance_expression-condition.auto.memory,
      c.rest_if-start.auto.memory,
    )

pub advance_machine-returns : goal.advance_machine-returns
advance_machine-returns t c =
    λ p. machine_advances p c.args.fresh c.requires.at_value c.is_second_state-state.ensures c.rest_if-start.ensures
    c.advance_expression-condition.ensures c.rest_if-bodies.ensures c.rest_if-run.ensures c.advance_by_kind-body.ensures
    c.rest_if-end.ensures c.put_cell.ensures

pub advance_pre-overflow_sub-below : goal.advance_pre-overflow_sub-below
advance_pre-overflow_sub-below t c = (opened c.requires.ready.place).level-left

pub advance_pre-overflow_add-first-2 : goal.advance_pre-overflow_add-first-2
advance_pre-overflow_add-first-2 t c = omega (arith, (opened c.requires.ready.place).good.ends, c.body.ensures ∙ ap body_of c.of.ensures)

pub advance_pre-overflow_add-first-3 : goal.advance_pre-overflow_add-first-3
advance_pre-overflow_add-first-3 t c = omega (arith, (opened c.requires.ready.place).good.cells)

pub advance_pre-pre_word-word-requires : goal.advance_pre-pre_word-word-requires
advance_pre-pre_word-word-requires t c =
    let place = c.requires.ready.place in
    (whole place, (own-cell place c.requires.bound.0 (omega (arith, c.requires.bound))).stands.fits)

pub advance_pre-advance_expression-operand-requires : goal.advance_pre-advance_expression-operand-requires
advance_pre-advance_expression-operand-requires t c =
    let p = c.requires.ready in
    let w = pre-view p.place c.requires.bound.0 c.requires.bound.1 in
    (deeper p c.decreases, rw (c.body.ensures ∙ ap body_of c.of.ensures) (one-ready p w))

pub advance_pre-put_cell-requires : goal.advance_pre-put_cell-requires
advance_pre-put_cell-requires t c =
    let own = own-cell c.requires.ready.place c.requires.bound.0 (omega (arith, c.requires.bound)) in
    omega (arith, own.stands.fits, c.advance_expression-operand.auto.memory)

pub advance_pre-returns : goal.advance_pre-returns
advance_pre-returns t c =
    λ p. pre_advances p c.args.fresh c.requires.bound.0 c.requires.bound.1
    (c.body.ensures ∙ ap body_of c.of.ensures) c.pre_word-word.ensures c.advance_expression-operand.ensures c.datum_of.ensures
    c.put_cell.ensures

pub advance_present-overflow_sub-below : goal.advance_present-overflow_sub-below
advance_present-overflow_sub-below t c = (opened c.requires.ready.place).level-left

pub advance_present-advance_expression-condition-requires : goal.advance_present-advance_expression-condition-requires
advance_present-advance_expression-condition-requires t c =
    let p = c.requires.ready in
    let w = present-view p.place c.requires.at_value in
    (deeper p c.decreases, three-ready p w)

pub advance_present-advance_by_kind-yes-requires : goal.advance_present-advance_by_kind-yes-requires
advance_present-advance_by_kind-yes-requires t c =
    let p = c.requires.ready in
    let w = present-view p.place c.requires.at_value in
    (deeper_by_kind p c.decreases, three-ready_2 p w c.advance_expression-condition.ensures)

pub advance_present-rest-requires : goal.advance_present-rest-requires
advance_present-rest-requires t c =
    let p = c.requires.ready in
    three-arm_3 p (present-view p.place c.requires.at_value) c.advance_expression-condition.ensures c.advance_by_kind-yes.ensures

pub advance_present-returns-then-condition-eq1 : goal.advance_present-returns-then-condition-eq1
advance_present-returns-then-condition-eq1 t c =
    λ p. present_advances_first p c.args.fresh c.requires.at_value
    c.advance_expression-condition.ensures c.if-condition-eq1.true c.advance_by_kind-yes.ensures c.rest.ensures

pub advance_present-rest-no-requires : goal.advance_present-rest-no-requires
advance_present-rest-no-requires t c =
    let p = c.requires.ready in
    three-arm_2 p (present-view p.place c.requires.at_value) c.advance_expression-condition.ensures

pub advance_present-advance_by_kind-requires : goal.advance_present-advance_by_kind-requires
advance_present-advance_by_kind-requires t c =
    let p = c.requires.ready in
    let w = present-view p.place c.requires.at_value in (
      deeper_by_kind p c.decreases,
      rest-ready_3 p w
          c.advance_expression-condition.ensures c.rest-no.ensures,
    )

pub advance_present-returns : goal.advance_present-returns
advance_present-returns t c =
    λ p. present_advances_second p c.args.fresh c.requires.at_value
    c.advance_expression-condition.ensures c.if-condition-eq1.false c.rest-no.ensures c.advance_by_kind.ensures

pub advance_reset-overflow_sub-below : goal.advance_reset-overflow_sub-below
advance_reset-overflow_sub-below t c = (opened c.requires.ready.place).level-left

pub advance_reset-advance_expression-condition-requires : goal.advance_reset-advance_expression-condition-requires
advance_reset-advance_expression-condition-requires t c =
    let p = c.requires.ready in
    let w = reset-view p.place c.requires.at_value in
    (deeper p c.decreases, two_ready p w)

pub advance_reset-advance_by_kind-requires : goal.advance_reset-advance_by_kind-requires
advance_reset-advance_by_kind-requires t c =
    let p = c.requires.ready in
    let w = reset-view p.place c.requires.at_value in
    (deeper_by_kind p c.decreases, two-ready_2 p w c.advance_expression-condition.ensures)

pub advance_reset-returns : goal.advance_reset-returns
advance_reset-returns t c = λ p. reset_advances p c.args.fresh c.requires.at_value c.advance_expression-condition.ensures c.advance_by_kind.ensures

pub advance_expression-bounds-fixed-here : goal.advance_expression-bounds-fixed-here
advance_expression-bounds-fixed-here t c = (opened c.requires.place).good.starts

pub advance_unary-overflow_sub-below : goal.advance_unary-overflow_sub-below
advance_unary-overflow_sub-below t c = (opened c.requires.ready.place).level-left

pub advance_unary-advance_expression-operand-requires : goal.advance_unary-advance_expression-operand-requires
advance_unary-advance_expression-operand-requires t c =
    let p = c.requires.ready in
    let types = rw c.of-kind.ensures at (c.operation_type-type_asked.ensures c.args.asked) in
    (deeper p c.decreases, one-ready p (unary-view p.place _ types c.requires.bound.0 c.requires.bound.1))

pub advance_unary-returns : goal.advance_unary-returns
advance_unary-returns t c =
    λ p. unary_advances p c.args.fresh _ (rw c.of-kind.ensures at (c.operation_type-type_asked.ensures c.args.asked))
    c.requires.bound.0 c.requires.bound.1 c.advance_expression-operand.ensures c.unary.ensures

pub advance_binary-overflow_sub-below : goal.advance_binary-overflow_sub-below
advance_binary-overflow_sub-below t c = (opened c.requires.ready.place).level-left

pub advance_binary-advance_expression-left-requires : goal.advance_binary-advance_expression-left-requires
advance_binary-advance_expression-left-requires t c =
    let p = c.requires.ready in
    let types = rw c.of-kind.ensures at (c.operation_type-type_asked.ensures c.args.asked) in
    (deeper p c.decreases, two_ready p (binary-view p.place _ types c.requires.bound.0 c.requires.bound.1))

pub advance_binary-advance_expression-right-requires : goal.advance_binary-advance_expression-right-requires
advance_binary-advance_expression-right-requires t c =
    let p = c.requires.ready in
    let types = rw c.of-kind.ensures at (c.operation_type-type_asked.ensures c.args.asked) in
    let w = binary-view p.place _ types c.requires.bound.0 c.requires.bound.1 in
    (deeper p c.decreases, two-ready_2 p w c.advance_expression-left.ensures)

pub advance_binary-returns : goal.advance_binary-returns
advance_binary-returns t c =
    λ p. binary_advances p c.args.fresh _ (rw c.of-kind.ensures at (c.operation_type-type_asked.ensures c.args.asked))
    c.requires.bound.0 c.requires.bound.1 c.advance_expression-left.ensures c.advance_expression-right.ensures
    c.binary.ensures

pub advance_by_kind-of-requires : goal.advance_by_kind-of-requires
advance_by_kind-of-requires t c = (opened c.requires.place).good.kind

pub advance_by_kind-known_leaf-requires : goal.advance_by_kind-known_leaf-requires
advance_by_kind-known_leaf-requires t c = leaf-of c.requires.place (rw (← c.of.ensures) (leaf-few c.in-BooleanConstant.is))

pub advance_by_kind-returns-in-BooleanConstant : goal.advance_by_kind-returns-in-BooleanConstant
advance_by_kind-returns-in-BooleanConstant t c =
    λ p. leaf_advances p c.args.fresh (rw (← c.of.ensures) (leaf-few c.in-BooleanConstant.is)) c.known_leaf.ensures

pub advance_by_kind-value_last-requires : goal.advance_by_kind-value_last-requires
advance_by_kind-value_last-requires t c = last_of c.requires.place (sym c.of.ensures ∙ ap byte_of c.in-Last.is)

pub advance_by_kind-returns-in-Last : goal.advance_by_kind-returns-in-Last
advance_by_kind-returns-in-Last t c =
    λ p. last_advances p c.args.fresh (sym c.of.ensures ∙ ap byte_of c.in-Last.is) c.value_last.ensures

pub advance_expression-of-requires : goal.advance_expression-of-requires
advance_expression-of-requires t c = (opened c.requires.place).good.kind

pub advance_expression-known_leaf-requires : goal.advance_expression-known_leaf-requires
advance_expression-known_leaf-requires t c = leaf-of c.requires.place (rw (← c.of.ensures) (ltb-true _ _ (sym c.is_leaf.ensures ∙ c.if-is_leaf.true)))

pub advance_expression-returns-then-is_leaf : goal.advance_expression-returns-then-is_leaf
advance_expression-returns-then-is_leaf t c =
    λ p. leaf_advances p c.args.fresh (rw (← c.of.ensures) (ltb-true _ _ (sym c.is_leaf.ensures ∙ c.if-is_leaf.true))) c.known_leaf.ensures
