-- `count_machine` meets its contract.
use native.Mathlib.Omega.{arith}
use Rattle.expression.proofs.Views.{opened, placed, readable, state-cell, machine-view}
use Rattle.expression.proofs.Machines.{asked_condition, other_condition, first_body_lem}
use Rattle.waiting.proofs.Machines.{machine-counts_condition, machine-counts-body}
use Rattle.waiting.proofs.count.count_machine.Goals as goal

pub overflow_add-first-2 : goal.overflow_add-first-2
overflow_add-first-2 c = omega (arith, (opened c.requires.placed.1).good.cells)

pub is_second_state-state-requires : goal.is_second_state-state-requires
is_second_state-state-requires c = (state-cell c.requires.placed.1 c.requires.at_value).stands.fits

pub skip_if-asked-requires : goal.skip_if-asked-requires
skip_if-asked-requires c =
    let p = c.requires.placed.1 in
    λ holds. readable p (machine-view p c.requires.at_value).first

pub overflow_sub-level : goal.overflow_sub-level
overflow_sub-level c = (opened c.requires.placed.1).level-left

pub value_expression-requires : goal.value_expression-requires
value_expression-requires c =
    let p = c.requires.placed.1 in
    (_, placed p (asked_condition p c.requires.at_value c.args.fresh c.is_second_state-state.ensures c.skip_if-asked.ensures))

pub returns-in_default : goal.returns-in_default
returns-in_default c =
    λ t p. machine-counts_condition p c.requires.at_value c.args.fresh c.is_second_state-state.ensures c.skip_if-asked.ensures
    c.value_expression.ensures c.in_default.is

pub skip_if-bodies-requires : goal.skip_if-bodies-requires
skip_if-bodies-requires c =
    let p = c.requires.placed.1 in
    λ fails. readable p (other_condition p c.requires.at_value c.args.fresh c.is_second_state-state.ensures c.skip_if-asked.ensures
    c.value_expression.ensures c.in-Some.is fails)

pub skip_if-run-requires : goal.skip_if-run-requires
skip_if-run-requires c =
    let p = c.requires.placed.1 in
    λ holds. readable p (first_body_lem p c.requires.at_value c.args.fresh c.is_second_state-state.ensures c.skip_if-asked.ensures
    c.value_expression.ensures c.in-Some.is c.skip_if-bodies.ensures)

pub returns : goal.returns
returns c =
    λ t p. machine-counts-body p c.requires.at_value c.args.fresh c.is_second_state-state.ensures c.skip_if-asked.ensures
    c.value_expression.ensures c.in-Some.is c.skip_if-bodies.ensures c.skip_if-run.ensures
