-- The functions that value an expression meet their contracts. The level falls from an expression to its operands; an expression
-- goes by its kind at the same level, if it is no leaf.
use Rattle.std.proofs.Common.{sym, ap, ◌∙◌}
use Rattle.sheet.specs.KindBytes.{byte_of}
use native.Mathlib.Omega.{arith}
use borrow.Author.Tests.{ltb-true}
use Rattle.expression.proofs.Views.{opened, readable, leaf-few, leaf-of, last_of, own-cell, state-cell}
use Rattle.expression.proofs.Views.{own-types, operation_first, binary-view, conditional-view, present-view, reset-view, fby-view, machine-view}
use Rattle.expression.proofs.Values.{after-value, after-walk}
use Rattle.expression.proofs.Machines.{asked_condition, condition_unknown, other_condition, first_body_lem, running_body}
use Rattle.expression.proofs.Machines.{body-unknown, other-body, machine-answer}
use Rattle.expression.proofs.Answers.{deeper, deeper_by_kind, leaf_yields, last_yields}
use Rattle.expression.proofs.Answers.{operation_unknown, unary-answer, binary-unknown, binary-answer}
use Rattle.expression.proofs.Answers.{conditional-second, conditional-third, conditional-unknown, conditional-unknown-then}
use Rattle.expression.proofs.Answers.{conditional-unknown-otherwise, conditional-answer}
use Rattle.expression.proofs.Answers.{present-second, present-third, present-unchosen, present-unknown, present-unknown-arm, present-answer-first, present-answer-second}
use Rattle.expression.proofs.Answers.{reset-second, reset-unknown, reset-answer}
use Rattle.expression.proofs.Answers.{fby-unknown, fby-answer-left, fby-answer-cell}
use Rattle.expression.proofs.value.+valuing.Goals as goal

pub value_conditional-overflow_sub-below : goal.value_conditional-overflow_sub-below
value_conditional-overflow_sub-below t c = (opened c.requires.placed.1).level-left

pub value_conditional-value_expression-requires : goal.value_conditional-value_expression-requires
value_conditional-value_expression-requires t c =
    let p = c.requires.placed.1 in
    deeper p c.args.fresh 2 c.decreases (conditional-view p c.requires.at_value).first

pub value_conditional-returns-in_err-condition : goal.value_conditional-returns-in_err-condition
value_conditional-returns-in_err-condition t c =
    λ t p. rw c.from_residual.ensures
    (conditional-unknown p c.args.fresh c.requires.at_value c.value_expression.ensures c.in_err-condition.was)

pub value_conditional-value_expression-requires-2 : goal.value_conditional-value_expression-requires-2
value_conditional-value_expression-requires-2 t c =
    let p = c.requires.placed.1 in
    deeper p c.args.fresh 2 c.decreases
    (conditional-second p c.args.fresh c.requires.at_value c.value_expression.ensures c.in_ok-condition.was)

pub value_conditional-returns-in_err-then : goal.value_conditional-returns-in_err-then
value_conditional-returns-in_err-then t c =
    λ t p. rw c.from_residual-in_err-then.ensures
    (conditional-unknown-then p c.args.fresh c.requires.at_value c.value_expression.ensures c.in_ok-condition.was
    c.value_expression-2.ensures c.in_err-then.was)

pub value_conditional-value_expression-requires-3 : goal.value_conditional-value_expression-requires-3
value_conditional-value_expression-requires-3 t c =
    let p = c.requires.placed.1 in
    deeper p c.args.fresh 2 c.decreases
    (conditional-third p c.args.fresh c.requires.at_value c.value_expression.ensures c.in_ok-condition.was
    c.value_expression-2.ensures c.in_ok-then.was)

pub value_conditional-returns-in_err-otherwise : goal.value_conditional-returns-in_err-otherwise
value_conditional-returns-in_err-otherwise t c =
    λ t p. rw c.from_residual-in_err-otherwise.ensures
    (conditional-unknown-otherwise p c.args.fresh c.requires.at_value c.value_expression.ensures c.in_ok-condition.was
    c.value_expression-2.ensures c.in_ok-then.was c.value_expression-3.ensures c.in_err-otherwise.was)

pub value_conditional-returns : goal.value_conditional-returns
value_conditional-returns t c =
    λ t p. conditional-answer p c.args.fresh c.requires.at_value c.value_expression.ensures c.in_ok-condition.was
    c.value_expression-2.ensures c.in_ok-then.was c.value_expression-3.ensures c.in_ok-otherwise.was c.choose.ensures

pub value_expression-bounds-basis-here : goal.value_expression-bounds-basis-here
value_expression-bounds-basis-here t c = (opened c.requires.1).good.starts

pub value_fby-overflow_sub-below : goal.value_fby-overflow_sub-below
value_fby-overflow_sub-below t c = (opened c.requires.placed.1).level-left

pub value_fby-overflow_add-first-2 : goal.value_fby-overflow_add-first-2
value_fby-overflow_add-first-2 t c = omega (arith, (opened c.requires.placed.1).good.cells)

pub value_machine-overflow_sub-below : goal.value_machine-overflow_sub-below
value_machine-overflow_sub-below t c = (opened c.requires.placed.1).level-left

pub value_machine-is_second_state-state-requires : goal.value_machine-is_second_state-state-requires
value_machine-is_second_state-state-requires t c = (state-cell c.requires.placed.1 c.requires.at_value).stands.fits

pub value_machine-overflow_add-first-2 : goal.value_machine-overflow_add-first-2
value_machine-overflow_add-first-2 t c = omega (arith, (opened c.requires.placed.1).good.cells)

pub value_machine-skip_if-asked-requires : goal.value_machine-skip_if-asked-requires
value_machine-skip_if-asked-requires t c =
    let p = c.requires.placed.1 in
    λ holds. readable p (machine-view p c.requires.at_value).first

pub value_machine-value_expression-requires : goal.value_machine-value_expression-requires
value_machine-value_expression-requires t c =
    let p = c.requires.placed.1 in
    deeper p c.args.fresh 1 c.decreases
    (asked_condition p c.requires.at_value c.args.fresh c.is_second_state-state.ensures c.skip_if-asked.ensures)

pub value_machine-returns-in_err-condition : goal.value_machine-returns-in_err-condition
value_machine-returns-in_err-condition t c =
    λ t p. rw c.from_residual.ensures
    (condition_unknown p c.requires.at_value c.args.fresh c.is_second_state-state.ensures c.skip_if-asked.ensures
    c.value_expression.ensures c.in_err-condition.was)

pub value_machine-skip_if-bodies-requires : goal.value_machine-skip_if-bodies-requires
value_machine-skip_if-bodies-requires t c =
    let p = c.requires.placed.1 in
    λ fails. readable p (other_condition p c.requires.at_value c.args.fresh c.is_second_state-state.ensures c.skip_if-asked.ensures
    c.value_expression.ensures c.in_ok-condition.was fails)

pub value_machine-skip_if-run-requires : goal.value_machine-skip_if-run-requires
value_machine-skip_if-run-requires t c =
    let p = c.requires.placed.1 in
    λ holds. readable p (first_body_lem p c.requires.at_value c.args.fresh c.is_second_state-state.ensures c.skip_if-asked.ensures
    c.value_expression.ensures c.in_ok-condition.was c.skip_if-bodies.ensures)

pub value_machine-value_by_kind-requires : goal.value_machine-value_by_kind-requires
value_machine-value_by_kind-requires t c =
    let p = c.requires.placed.1 in
    deeper_by_kind p c.args.fresh 1 c.decreases
    (running_body p c.requires.at_value c.args.fresh c.is_second_state-state.ensures c.skip_if-asked.ensures
    c.value_expression.ensures c.in_ok-condition.was c.skip_if-bodies.ensures c.skip_if-run.ensures)

pub value_machine-returns-in_err-body : goal.value_machine-returns-in_err-body
value_machine-returns-in_err-body t c =
    λ t p. rw c.from_residual-in_err-body.ensures
    (body-unknown p c.requires.at_value c.args.fresh c.is_second_state-state.ensures c.skip_if-asked.ensures
    c.value_expression.ensures c.in_ok-condition.was c.skip_if-bodies.ensures c.skip_if-run.ensures
    c.value_by_kind.ensures c.in_err-body.was)

pub value_machine-skip_if-requires : goal.value_machine-skip_if-requires
value_machine-skip_if-requires t c =
    let p = c.requires.placed.1 in
    λ fails. readable p (other-body p c.requires.at_value c.args.fresh c.is_second_state-state.ensures c.skip_if-asked.ensures
    c.value_expression.ensures c.in_ok-condition.was c.skip_if-bodies.ensures c.skip_if-run.ensures
    c.value_by_kind.ensures c.in_ok-body.was fails)

pub value_machine-returns : goal.value_machine-returns
value_machine-returns t c =
    λ t p. machine-answer p c.requires.at_value c.args.fresh c.is_second_state-state.ensures c.skip_if-asked.ensures
    c.value_expression.ensures c.in_ok-condition.was c.skip_if-bodies.ensures c.skip_if-run.ensures
    c.value_by_kind.ensures c.in_ok-body.was c.skip_if.ensures

pub value_present-overflow_sub-below : goal.value_present-overflow_sub-below
value_present-overflow_sub-below t c = (opened c.requires.placed.1).level-left

pub value_present-value_expression-requires : goal.value_present-value_expression-requires
value_present-value_expression-requires t c =
    let p = c.requires.placed.1 in
    deeper p c.args.fresh 2 c.decreases (present-view p c.requires.at_value).first

pub value_present-returns-in_err-condition : goal.value_present-returns-in_err-condition
value_present-returns-in_err-condition t c =
    λ t p. rw c.from_residual.ensures
    (present-unknown p c.args.fresh c.requires.at_value c.value_expression.ensures c.in_err-condition.was)

pub value_present-value_by_kind-requires : goal.value_present-value_by_kind-requires
value_present-value_by_kind-requires t c =
    let p = c.requires.placed.1 in
    deeper_by_kind p c.args.fresh 2 c.decreases
    (present-second p c.args.fresh c.requires.at_value c.value_expression.ensures c.in_ok-condition.was)

pub value_present-returns-in_err-yes : goal.value_present-returns-in_err-yes
value_present-returns-in_err-yes t c =
    λ t p. rw c.from_residual-in_err-yes.ensures
    (present-unknown-arm p c.args.fresh c.requires.at_value c.value_expression.ensures c.in_ok-condition.was
    c.if-condition-eq1.true c.value_by_kind.ensures c.in_err-yes.was)

pub value_present-skip-requires : goal.value_present-skip-requires
value_present-skip-requires t c =
    let p = c.requires.placed.1 in
    readable p (present-unchosen p c.args.fresh c.requires.at_value c.value_expression.ensures c.in_ok-condition.was
    c.if-condition-eq1.true c.value_by_kind.ensures c.in_ok-yes.was)

pub value_present-returns-then-condition-eq1 : goal.value_present-returns-then-condition-eq1
value_present-returns-then-condition-eq1 t c =
    λ t p. present-answer-first p c.args.fresh c.requires.at_value c.value_expression.ensures c.in_ok-condition.was
    c.if-condition-eq1.true c.value_by_kind.ensures c.in_ok-yes.was c.skip.ensures

pub value_present-skip-no-requires : goal.value_present-skip-no-requires
value_present-skip-no-requires t c =
    let p = c.requires.placed.1 in
    readable p (present-second p c.args.fresh c.requires.at_value c.value_expression.ensures c.in_ok-condition.was)

pub value_present-value_by_kind-requires-2 : goal.value_present-value_by_kind-requires-2
value_present-value_by_kind-requires-2 t c =
    let p = c.requires.placed.1 in
    deeper_by_kind p c.args.fresh 2 c.decreases
    (present-third p c.args.fresh c.requires.at_value c.value_expression.ensures c.in_ok-condition.was c.skip-no.ensures)

pub value_present-returns : goal.value_present-returns
value_present-returns t c =
    λ t p. present-answer-second p c.args.fresh c.requires.at_value c.value_expression.ensures c.in_ok-condition.was
    c.if-condition-eq1.false c.skip-no.ensures c.value_by_kind-2.ensures

pub value_reset-overflow_sub-below : goal.value_reset-overflow_sub-below
value_reset-overflow_sub-below t c = (opened c.requires.placed.1).level-left

pub value_reset-value_expression-requires : goal.value_reset-value_expression-requires
value_reset-value_expression-requires t c =
    let p = c.requires.placed.1 in
    deeper p c.args.fresh 2 c.decreases (reset-view p c.requires.at_value).first

pub value_reset-returns-in_err-condition : goal.value_reset-returns-in_err-condition
value_reset-returns-in_err-condition t c =
    λ t p. rw c.from_residual.ensures
    (reset-unknown p c.args.fresh c.requires.at_value c.value_expression.ensures c.in_err-condition.was)

pub value_reset-value_by_kind-requires : goal.value_reset-value_by_kind-requires
value_reset-value_by_kind-requires t c =
    let p = c.requires.placed.1 in
    deeper_by_kind p c.args.fresh 2 c.decreases
    (reset-second p c.args.fresh c.requires.at_value c.value_expression.ensures c.in_ok-condition.was)

pub value_reset-returns : goal.value_reset-returns
value_reset-returns t c =
    λ t p. reset-answer p c.args.fresh c.requires.at_value c.value_expression.ensures c.in_ok-condition.was c.value_by_kind.ensures

pub value_by_kind-bounds-basis-here : goal.value_by_kind-bounds-basis-here
value_by_kind-bounds-basis-here t c = (opened c.requires.1).good.starts

pub value_by_kind-value_leaf-requires : goal.value_by_kind-value_leaf-requires
value_by_kind-value_leaf-requires t c = leaf-of c.requires.1 (rw (← c.of.ensures) (leaf-few c.in-BooleanConstant.is))

pub value_by_kind-returns-in-BooleanConstant : goal.value_by_kind-returns-in-BooleanConstant
value_by_kind-returns-in-BooleanConstant t c =
    λ t p. leaf_yields p c.args.fresh (rw (← c.of.ensures) (leaf-few c.in-BooleanConstant.is)) c.value_leaf.ensures c.ok.ensures.value

pub value_expression-value_leaf-requires : goal.value_expression-value_leaf-requires
value_expression-value_leaf-requires t c = leaf-of c.requires.1 (rw (← c.of.ensures) (ltb-true _ _ (sym c.is_leaf.ensures ∙ c.if-is_leaf.true)))

pub value_expression-returns-then-is_leaf : goal.value_expression-returns-then-is_leaf
value_expression-returns-then-is_leaf t c = λ t p. leaf_yields p c.args.fresh (rw (← c.of.ensures) (ltb-true _ _ (sym c.is_leaf.ensures ∙ c.if-is_leaf.true))) c.value_leaf.ensures c.ok.ensures.value

pub value_fby-is_seen-requires : goal.value_fby-is_seen-requires
value_fby-is_seen-requires t c =
    let p = c.requires.placed.1 in
    (own-cell p (omega (arith, c.requires.at_value)) (omega (arith, c.requires.at_value))).stands.fits

pub value_fby-skip-right-requires : goal.value_fby-skip-right-requires
value_fby-skip-right-requires t c =
    let p = c.requires.placed.1 in
    readable p (fby-view p c.requires.at_value).first

pub value_fby-skip-requires : goal.value_fby-skip-requires
value_fby-skip-requires t c =
    let p = c.requires.placed.1 in
    let w = fby-view p c.requires.at_value in
    readable p (after-walk p w.first c.skip-right.ensures w.second)

pub value_fby-word_in-requires : goal.value_fby-word_in-requires
value_fby-word_in-requires t c =
    let p = c.requires.placed.1 in
    (own-cell p (omega (arith, c.requires.at_value)) (omega (arith, c.requires.at_value))).stands.fits

pub value_fby-returns-then-is_seen : goal.value_fby-returns-then-is_seen
value_fby-returns-then-is_seen t c =
    λ t p. fby-answer-cell p c.args.fresh c.requires.at_value
    (sym c.is_seen.ensures ∙ c.if-is_seen.true)
    c.word_in.ensures c.skip-right.ensures c.skip.ensures

pub value_fby-value_expression-requires : goal.value_fby-value_expression-requires
value_fby-value_expression-requires t c =
    let p = c.requires.placed.1 in
    let of = c.requires.at_value in
    deeper p c.args.fresh 2 c.decreases (fby-view p of).first

pub value_fby-returns-in_err-left : goal.value_fby-returns-in_err-left
value_fby-returns-in_err-left t c =
    λ t p. rw c.from_residual.ensures
    (fby-unknown p c.args.fresh c.requires.at_value
    (sym c.is_seen.ensures ∙ c.if-is_seen.false) c.value_expression.ensures c.in_err-left.was)

pub value_fby-skip-requires-2 : goal.value_fby-skip-requires-2
value_fby-skip-requires-2 t c =
    let p = c.requires.placed.1 in
    let w = fby-view p c.requires.at_value in
    readable p (after-value p w.first c.value_expression.ensures c.in_ok-left.was w.second)

pub value_fby-returns : goal.value_fby-returns
value_fby-returns t c =
    λ t p. fby-answer-left p c.args.fresh c.requires.at_value
    (sym c.is_seen.ensures ∙ c.if-is_seen.false) c.value_expression.ensures c.in_ok-left.was c.skip-2.ensures

pub value_unary-overflow_sub-below : goal.value_unary-overflow_sub-below
value_unary-overflow_sub-below t c = (opened c.requires.placed.1).level-left

pub value_binary-overflow_sub-below : goal.value_binary-overflow_sub-below
value_binary-overflow_sub-below t c = (opened c.requires.placed.1).level-left

pub value_unary-value_expression-requires : goal.value_unary-value_expression-requires
value_unary-value_expression-requires t c =
    let p = c.requires.placed.1 in
    let first = operation_first p _ (own-types p) c.requires.bound.0 (omega (arith, c.requires.bound)) in
    deeper p c.args.fresh 2 c.decreases first

pub value_binary-value_expression-requires : goal.value_binary-value_expression-requires
value_binary-value_expression-requires t c =
    let p = c.requires.placed.1 in
    let first = operation_first p _ (own-types p) (omega (arith, c.requires.bound)) c.requires.bound.1 in
    deeper p c.args.fresh 2 c.decreases first

pub value_unary-returns-in_err-operand : goal.value_unary-returns-in_err-operand
value_unary-returns-in_err-operand t c =
    λ t p. rw c.from_residual.ensures
    (operation_unknown p c.args.fresh c.value_expression.ensures c.requires.bound.0 (omega (arith, c.requires.bound)) c.in_err-operand.was)

pub value_binary-returns-in_err-left : goal.value_binary-returns-in_err-left
value_binary-returns-in_err-left t c =
    λ t p. rw c.from_residual.ensures
    (operation_unknown p c.args.fresh c.value_expression.ensures (omega (arith, c.requires.bound)) c.requires.bound.1 c.in_err-left.was)

pub value_unary-returns : goal.value_unary-returns
value_unary-returns t c =
    λ t p. unary-answer p c.args.fresh c.value_expression.ensures c.in_ok-operand.was c.requires.bound.0 c.requires.bound.1 c.unary.ensures

pub value_binary-value_expression-requires-2 : goal.value_binary-value_expression-requires-2
value_binary-value_expression-requires-2 t c =
    let p = c.requires.placed.1 in
    let w = binary-view p _ (own-types p) c.requires.bound.0 c.requires.bound.1 in
    let second = after-value p w.first c.value_expression.ensures c.in_ok-left.was w.second in
    deeper p c.args.fresh 2 c.decreases second

pub value_binary-returns-in_err-right : goal.value_binary-returns-in_err-right
value_binary-returns-in_err-right t c =
    λ t p. rw c.from_residual-in_err-right.ensures
    (binary-unknown p c.args.fresh c.value_expression.ensures c.in_ok-left.was c.requires.bound.0 c.requires.bound.1
    c.value_expression-2.ensures c.in_err-right.was)

pub value_binary-returns : goal.value_binary-returns
value_binary-returns t c =
    λ t p. binary-answer p c.args.fresh c.value_expression.ensures c.in_ok-left.was c.requires.bound.0 c.requires.bound.1
    c.value_expression-2.ensures c.in_ok-right.was c.binary.ensures

pub value_by_kind-of-requires : goal.value_by_kind-of-requires
value_by_kind-of-requires t c = (opened c.requires.1).good.kind

pub value_expression-of-requires : goal.value_expression-of-requires
value_expression-of-requires t c = (opened c.requires.1).good.kind

pub value_by_kind-value_last-requires : goal.value_by_kind-value_last-requires
value_by_kind-value_last-requires t c = last_of c.requires.1 (sym c.of.ensures ∙ ap byte_of c.in-Last.is)

pub value_by_kind-returns-in-Last : goal.value_by_kind-returns-in-Last
value_by_kind-returns-in-Last t c = λ t p. last_yields p c.args.fresh (sym c.of.ensures ∙ ap byte_of c.in-Last.is) c.value_last.ensures
