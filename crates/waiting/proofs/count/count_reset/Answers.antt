-- `count_reset` meets its contract.
use Rattle.expression.proofs.Views.{opened, placed, reset-view}
use Rattle.waiting.proofs.Counting.{reset-counts_condition, reset-counts-operand}
use Rattle.waiting.proofs.count.count_reset.Goals as goal

pub overflow_sub-level : goal.overflow_sub-level
overflow_sub-level c = (opened c.requires.placed.1).level-left

pub value_expression-requires : goal.value_expression-requires
value_expression-requires c = let p = c.requires.placed.1 in (_, placed p (reset-view p c.requires.at_value).first)

pub returns-in_default : goal.returns-in_default
returns-in_default c =
    λ t p. reset-counts_condition p c.args.fresh c.value_expression.ensures c.requires.at_value c.in_default.is

pub returns : goal.returns
returns c = λ t p. reset-counts-operand p c.args.fresh c.value_expression.ensures c.requires.at_value c.in-Some.is
