-- A sheet: what its bytes say, or the first refusal 1 to 11 with its place; and what the check answers.
use Rattle.std.specs.Prelude.{ℕ, ◌+◌, ◌-◌, cond, true, false, List, [], ◌∷◌, ◌++◌, map, length, get_or, take, drop, ltb, eqb}
use Rattle.sheet.specs.Data.{ValueType, type_of_byte, plain_byte, is_kept, wire_type}
use Rattle.sheet.specs.Expressions.{Expression, constant, kept, CellForm, cell_forms}
use Rattle.sheet.specs.Outcomes.{Outcome, refusal, result, packed_answer}
use Rattle.sheet.specs.Readings.{Reading, refused, got, reading_answer, and_then, on_read, read_each, read_expression}
use Rattle.sheet.specs.Headers.{section_of}
use Rattle.sheet.specs.declared.Datum.TheVariants.{Boolean}
use Rattle.sheet.specs.declared.Refusal.TheVariants.{SheetLength, TypeByte, OutputWire, LeftOver}
use Rattle.sheet.specs.declared.Counts.{Counts}
use Rattle.sheet.specs.declared.Refused.{Refused}
use Rattle.std.specs.Prelude.{Result}

-- the types of inputs and wires, the wires that are outputs, and an expression for each wire
pub record Sheet : Type 0 where
  pub input_types : List ValueType
  pub wire_types : List ValueType
  pub outputs : List ℕ
  pub expressions : List Expression

unfoldable pub forms_of : List Expression → List CellForm
forms_of [] = []
forms_of (e ∷ es) = cell_forms e ++ forms_of es

-- the expression of wire w, and how many cells the wires before it own, which is the number of its first cell
abbrev pub expression_at : List Expression → ℕ → Expression
expression_at es w = get_or es w (constant (Boolean false))

abbrev pub cells_before : List Expression → ℕ → ℕ
cells_before es w = length (forms_of (take w es))

-- the cells of a sheet, in the order of their numbers
abbrev pub sheet_forms : Sheet → List CellForm
sheet_forms sheet = forms_of sheet.expressions

-- the n bytes before a place
abbrev pub before : List ℕ → ℕ → ℕ → List ℕ
before s at n = take n (drop (at - n) s)

-- the tree of a wire with this type byte: a kept wire owns a cell, which comes before those of its expression
abbrev pub wire_tree : ℕ → Expression → Expression
wire_tree b e = cond (is_kept b) (kept (wire_type b) e) e

-- how many cells such a wire owns itself
abbrev pub own_cells : ℕ → ℕ
own_cells b = cond (is_kept b) 1 0

-- how many of these wires are kept
unfoldable pub kept_count : List ℕ → ℕ
kept_count [] = 0
kept_count (b ∷ bs) = own_cells b + kept_count bs

-- the expression of a wire, at level 1 of 16
abbrev pub read_wire : (inputs wires s : List ℕ) → (byte at c : ℕ) → Reading Expression
read_wire inputs wires s b at c = and_then (read_expression inputs wires s 16 (plain_byte b) at c) (λ e n k. got (wire_tree b e) n k)

-- one expression for each wire; the count of cells has all those of kept wires from the start
unfoldable pub read_wires : (inputs wires s : List ℕ) → ℕ → Reading (List Expression)
read_wires inputs wires s at = read_each (read_wire inputs wires s) wires at (kept_count wires)

-- the rest of a sheet from `at` on: the expressions, and nothing behind them
abbrev pub expressions_from : (s inputs wires outputs : List ℕ) → ℕ → Reading Sheet
expressions_from s inputs wires outputs at =
    and_then (read_wires inputs wires s at) (λ es end count.
    cond (ltb end (length s)) (refused LeftOver end)
    (got
    (record { input_types = map type_of_byte inputs; wire_types = map wire_type wires; outputs = outputs; expressions = es })
    end count))

-- the rest from the outputs on, each of them a wire and above the one before
unfoldable pub outputs_from : (s inputs wires : List ℕ) → ℕ → Reading Sheet
outputs_from s inputs wires at =
    on_read (section_of s at 1 17 (length wires) true OutputWire) refused (λ n k. expressions_from s inputs wires (before s n k) n)

-- the rest from the wires on, each with its type, kept or not
unfoldable pub wires_from : (s inputs : List ℕ) → ℕ → Reading Sheet
wires_from s inputs at = on_read (section_of s at 1 65 4 false TypeByte) refused (λ n k. outputs_from s inputs (before s n k) n)

-- the whole, from the inputs with their types on
unfoldable pub read_sheet : List ℕ → Reading Sheet
read_sheet s =
    cond (eqb (length s) 0) (refused SheetLength 0)
    (cond (ltb 4096 (length s)) (refused SheetLength 0)
    (on_read (section_of s 0 0 17 2 false TypeByte) refused (λ n k. wires_from s (before s n k) n)))

abbrev pub outcome_of : Reading Sheet → Outcome Sheet
outcome_of (refused why place) = refusal why place
outcome_of (got sheet next count) = result sheet

-- a sheet that passes the check, or the refusal
unfoldable pub sheet_of : List ℕ → Outcome Sheet
sheet_of s = outcome_of (read_sheet s)

-- the four counts of a sheet with so many cells
abbrev pub counts_with : Sheet → (cells : ℕ) → Counts
counts_with sheet cells =
    record {
      inputs = length sheet.input_types;
      wires = length sheet.wire_types;
      outputs = length sheet.outputs;
      cells = cells;
    }

-- the check answers a reading's refusal, or the four counts
abbrev pub checked_of : Reading Sheet → Result Counts Refused
checked_of = reading_answer (λ sheet next count. counts_with sheet count)

abbrev pub check_of : List ℕ → Result Counts Refused
check_of s = checked_of (read_sheet s)

-- the number that the C library returns: the cells
abbrev pub packed_checked : Result Counts Refused → ℕ
packed_checked = packed_answer (λ counts. counts.cells)
