-- `check_wires` meets its contract. The loop's invariant: the wires passed are drawn, what is left of them reads as all of them do, and the
-- kept wires ahead are those that are left.
use Prim.Native.Nat.{ℕ, ◌≤◌}
use mathlib.Core.Path.{◌≡◌}
use mathlib.Core.List.{List}
use lib.ListN.{length, drop}
use Rattle.sheet.specs.Expressions.{Expression}
use Rattle.sheet.specs.Readings.{got, erased, read_each}
use Rattle.sheet.specs.Sheets.{kept_count, read_wire, read_wires}
use Rattle.sheet_names.specs.Naming.{ahead_in, Naming}
use Rattle.sheet_expressions.specs.Map.{run_of, WiresLookup}
use Rattle.sheet_expressions.proofs.Drawing.{Drawing}
use Rattle.sheet_expressions.proofs.check_wires.Given as goal

abbrev pub invariant-loop-w : goal.invariant-loop-w
invariant-loop-w l =
    ((64 ≤ length l.map.places) × (64 ≤ length l.map.firsts) × (64 ≤ length l.map.reads))
    × (l.next ≤ length l.sheet.now) × (l.count ≤ 64)
    × (ahead_in l.names ≡ kept_count (drop l.w l.types)) × (ahead_in l.names ≤ l.count)
    × ((inputs : List ℕ) → Naming inputs l.types l.initial.names → Naming inputs l.types l.names)
    × ((m : WiresLookup l.types l.initial.names)
    → (erased (read_each (read_wire m.inputs l.types l.sheet.now) (drop l.w l.types) l.next l.count)
    ≡ erased (read_wires m.inputs l.types l.sheet.now l.at))
    × ((trees : List Expression) (n k : ℕ) (each : read_wires m.inputs l.types l.sheet.now l.at ≡ got trees n k)
    → Drawing (run_of m.inputs l.types l.sheet.now l.at trees n k each) l.w l.next l.count l.map.places l.map.firsts l.map.reads
    l.initial.map.cells l.map.cells))
