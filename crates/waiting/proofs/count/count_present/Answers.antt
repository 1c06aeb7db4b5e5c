-- `count_present` meets its contract.
use Rattle.expression.proofs.Views.{opened, placed, readable, present-view}
use Rattle.expression.proofs.Values.{after-value}
use Rattle.waiting.proofs.Counting.{present-counts_condition, present-counts-first, present-counts-second}
use Rattle.waiting.proofs.count.count_present.Goals as goal

pub overflow_sub-level : goal.overflow_sub-level
overflow_sub-level c = (opened c.requires.placed.1).level-left

pub value_expression-requires : goal.value_expression-requires
value_expression-requires c = let p = c.requires.placed.1 in (_, placed p (present-view p c.requires.at_value).first)

pub returns-in_default : goal.returns-in_default
returns-in_default c =
    λ t p. present-counts_condition p c.args.fresh c.value_expression.ensures c.requires.at_value c.in_default.is

pub returns-then-condition-eq1 : goal.returns-then-condition-eq1
returns-then-condition-eq1 c =
    λ t p. present-counts-first p c.args.fresh c.value_expression.ensures c.requires.at_value c.in-Some.is c.if-condition-eq1.true

pub skip-requires : goal.skip-requires
skip-requires c =
    let p = c.requires.placed.1 in
    let v = present-view p c.requires.at_value in
    readable p (after-value p v.first c.value_expression.ensures c.in-Some.is v.second)

pub returns : goal.returns
returns c =
    λ t p. present-counts-second p c.args.fresh c.value_expression.ensures c.requires.at_value c.in-Some.is c.if-condition-eq1.false c.skip.ensures
