-- The functions that advance an expression meet their contracts. The level falls from an expression to its operands; an expression
-- goes by its kind at the same level, if it is no leaf.
use Prim.Native.Nat.{◌+◌, ◌*◌}
use Rattle.storing.proofs.advance.+advancing.Given as goal

abbrev pub decreases-advance_by_kind : goal.decreases-advance_by_kind
decreases-advance_by_kind l = 3 * l.level + 1

abbrev pub decreases-advance_conditional : goal.decreases-advance_conditional
decreases-advance_conditional l = 3 * l.level

abbrev pub decreases-advance_expression : goal.decreases-advance_expression
decreases-advance_expression l = 3 * l.level + 2

abbrev pub decreases-advance_fby : goal.decreases-advance_fby
decreases-advance_fby l = 3 * l.level

abbrev pub decreases-advance_machine : goal.decreases-advance_machine
decreases-advance_machine l = 3 * l.level

abbrev pub decreases-advance_unary : goal.decreases-advance_unary
decreases-advance_unary l = 3 * l.level

abbrev pub decreases-advance_binary : goal.decreases-advance_binary
decreases-advance_binary l = 3 * l.level

abbrev pub decreases-advance_pre : goal.decreases-advance_pre
decreases-advance_pre l = 3 * l.level

abbrev pub decreases-advance_present : goal.decreases-advance_present
decreases-advance_present l = 3 * l.level

abbrev pub decreases-advance_reset : goal.decreases-advance_reset
decreases-advance_reset l = 3 * l.level
