-- The functions that value an expression meet their contracts. The level falls from an expression to its operands; an expression
-- goes by its kind at the same level, if it is no leaf.
use Prim.Native.Nat.{◌+◌, ◌*◌}
use Rattle.expression.proofs.value.+valuing.Given as goal

abbrev pub decreases-value_by_kind : goal.decreases-value_by_kind
decreases-value_by_kind l = 5 * l.level + 3

abbrev pub decreases-value_conditional : goal.decreases-value_conditional
decreases-value_conditional l = 5 * l.level + 2

abbrev pub decreases-value_expression : goal.decreases-value_expression
decreases-value_expression l = 5 * l.level + 4

abbrev pub decreases-value_fby : goal.decreases-value_fby
decreases-value_fby l = 5 * l.level + 2

abbrev pub decreases-value_machine : goal.decreases-value_machine
decreases-value_machine l = 5 * l.level + 1

abbrev pub decreases-value_unary : goal.decreases-value_unary
decreases-value_unary l = 5 * l.level + 2

abbrev pub decreases-value_binary : goal.decreases-value_binary
decreases-value_binary l = 5 * l.level + 2

abbrev pub decreases-value_present : goal.decreases-value_present
decreases-value_present l = 5 * l.level + 2

abbrev pub decreases-value_reset : goal.decreases-value_reset
decreases-value_reset l = 5 * l.level + 2
