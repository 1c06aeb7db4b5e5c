-- `check_one`, `check_node`, `check_operand` and `check_operands` meet their contracts. The loop over the operands: what is left of the
-- run reads as the whole run does, and its cells and reads, once noted, make those of the whole. The level falls from an expression to its
-- operands.
use Rattle.std.proofs.Common.{ℕ, ◌+◌, ◌*◌, ◌-◌, ◌≤◌, ◌≡◌, List, take, drop}
use Rattle.sheet.specs.Expressions.{Expression}
use Rattle.sheet.specs.Kinds.{operands_of}
use Rattle.sheet.specs.Reads.{all_read}
use Rattle.sheet.specs.Readings.{got, erased, read_each, read_expression}
use Rattle.sheet.specs.Sheets.{forms_of}
use Rattle.sheet_names.specs.Naming.{ahead_in}
use Rattle.sheet_own.specs.Own.{Lookup}
use Rattle.sheet.specs.KindBytes.{byte_of}
use Rattle.sheet_expressions.proofs.Noting.{Left}
use Rattle.sheet_expressions.proofs.+checking.Given as goal

abbrev pub decreases-check_node : goal.decreases-check_node
decreases-check_node l = 5 * l.level

abbrev pub decreases-check_one : goal.decreases-check_one
decreases-check_one l = 5 * l.level + 1

abbrev pub decreases-check_operand : goal.decreases-check_operand
decreases-check_operand l = 5 * l.level + 2

abbrev pub decreases-check_operands : goal.decreases-check_operands
decreases-check_operands l = 5 * l.level + 3

abbrev pub invariant-check_operands-loop-i : goal.invariant-check_operands-loop-i
invariant-check_operands-loop-i l =
    (l.behind ≤ 64) × (ahead_in l.names ≤ l.behind)
    × ((m : Lookup l.names)
    → (erased (read_each (read_expression m.inputs m.wires l.sheet.now l.level) (drop l.i (operands_of (byte_of l.fn.kind) l.asked)) l.next l.behind)
    ≡ erased (read_each (read_expression m.inputs m.wires l.sheet.now l.level) (operands_of (byte_of l.fn.kind) l.asked) l.at l.count))
    × ((es : List Expression) (n k : ℕ)
    → read_each (read_expression m.inputs m.wires l.sheet.now l.level) (operands_of (byte_of l.fn.kind) l.asked) l.at l.count ≡ got es n k
    → Left l.sheet.now (read_expression m.inputs m.wires l.sheet.now l.level) (ahead_in l.names) (drop l.i (operands_of (byte_of l.fn.kind) l.asked))
    l.next l.behind n k (forms_of es) (l.count - ahead_in l.names) l.initial.cells l.cells (l.counted - l.i)
    (all_read (take l.counted es)) l.initial.reads l.reads))
