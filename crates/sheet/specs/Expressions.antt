-- Expressions as trees, one constructor for each shape; the cells that they own, in the order of their numbers.
use Rattle.std.specs.Prelude.{ℕ, suc, ◌+◌, Bool, true, false, List, [], ◌∷◌, ◌++◌, length}
use Rattle.sheet.specs.Data.{ValueType, boolean, type_of, datum_of}
use Rattle.sheet.specs.declared.Datum.{Datum}
use Rattle.sheet.specs.declared.Datum.TheVariants.{Boolean}
use Rattle.sheet.specs.declared.Cell.{Cell}
use Rattle.sheet.specs.declared.Cell.TheVariants.{NotStarted, Started}

-- kinds 4 and 5
pub data Unary : Type 0 where
  negation negative : Unary

-- kinds 6 to 11
pub data Binary : Type 0 where
  conjunction disjunction sum difference lessThan equality : Binary

-- kinds 13, 14 and 19: a condition is asked, and by it a body runs
pub data Switch : Type 0 where
  present reset machine : Switch

mutual
  -- An fby has the type asked of it, which is its cell's. A switch has conditions and bodies. `last`, kind 18, names a kept wire, and `kept`
  -- is the expression of such a wire with the wire's own cell: it stands around a wire's whole expression and nowhere else, so that no
  -- reset is above it, and no arm.
  pub data Expression : Type 0 where
    constant : Datum → Expression
    wire : ℕ → Expression
    input : ℕ → Expression
    last : ℕ → Expression
    unary : Unary → Expression → Expression
    binary : Binary → Expression → Expression → Expression
    conditional : Expression → Expression → Expression → Expression
    switch : Switch → (conditions bodies : Alternatives) → Expression
    pre : Datum → Expression → Expression
    fby : ValueType → Expression → Expression → Expression
    kept : ValueType → Expression → Expression

  -- the conditions or the bodies of a switch: one, or two
  pub data Alternatives : Type 0 where
    only : Expression → Alternatives
    either : Expression → Expression → Alternatives

-- the switches by their operands, in the order of the sheet: a present's arms, a reset's operand and a machine's states are their bodies
abbrev pub present_of : (condition then-arm else_arm : Expression) → Expression
present_of c a b = switch present (only c) (either a b)

abbrev pub reset_of : (condition operand : Expression) → Expression
reset_of c a = switch reset (only c) (only a)

abbrev pub machine_of : (leave-0 leave-1 body-0 body-1 : Expression) → Expression
machine_of c d a b = switch machine (either c d) (either a b)

-- whether an expression is that of a kept wire
abbrev pub is_kept_wire : Expression → Bool
is_kept_wire (constant d) = false
is_kept_wire (wire w) = false
is_kept_wire (input i) = false
is_kept_wire (last w) = false
is_kept_wire (unary o a) = false
is_kept_wire (binary o a b) = false
is_kept_wire (conditional c a b) = false
is_kept_wire (switch o cs bs) = false
is_kept_wire (pre d a) = false
is_kept_wire (fby t a b) = false
is_kept_wire (kept t a) = true

-- what is fixed of a cell: the type of what it holds, and the cell as it is at the start
pub record CellForm : Type 0 where
  pub type : ValueType
  pub start : Cell

abbrev pub pre_cell : Datum → CellForm
pre_cell d = record { type = type_of d; start = Started d }

abbrev pub fby_cell : ValueType → CellForm
fby_cell t = record { type = t; start = NotStarted }

-- false or 0
abbrev pub kept_cell : ValueType → CellForm
kept_cell t = record { type = t; start = Started (datum_of t 0) }

-- false, which is state 0
abbrev pub state_cell : CellForm
state_cell = record { type = boolean; start = Started (Boolean false) }

-- a machine owns a cell, which has its state
abbrev pub switch_forms : Switch → List CellForm
switch_forms present = []
switch_forms reset = []
switch_forms machine = state_cell ∷ []

-- An expression's cells stand together: its own first, then those of its operands in order.
unfoldable mutual
  pub cell_forms : Expression → List CellForm
  cell_forms (constant d) = []
  cell_forms (wire w) = []
  cell_forms (input i) = []
  cell_forms (last w) = []
  cell_forms (unary o a) = cell_forms a
  cell_forms (binary o a b) = cell_forms a ++ cell_forms b
  cell_forms (conditional c a b) = cell_forms c ++ (cell_forms a ++ cell_forms b)
  cell_forms (switch o cs bs) = switch_forms o ++ (forms_in cs ++ forms_in bs)
  cell_forms (pre d a) = pre_cell d ∷ cell_forms a
  cell_forms (fby t a b) = fby_cell t ∷ (cell_forms a ++ cell_forms b)
  cell_forms (kept t a) = kept_cell t ∷ cell_forms a

  pub forms_in : Alternatives → List CellForm
  forms_in (only a) = cell_forms a
  forms_in (either a b) = cell_forms a ++ cell_forms b

unfoldable mutual
  pub cell_count : Expression → ℕ
  cell_count (constant d) = 0
  cell_count (wire w) = 0
  cell_count (input i) = 0
  cell_count (last w) = 0
  cell_count (unary o a) = cell_count a
  cell_count (binary o a b) = cell_count a + cell_count b
  cell_count (conditional c a b) = cell_count c + (cell_count a + cell_count b)
  cell_count (switch o cs bs) = length (switch_forms o) + (count_in cs + count_in bs)
  cell_count (pre d a) = suc (cell_count a)
  cell_count (fby t a b) = suc (cell_count a + cell_count b)
  cell_count (kept t a) = suc (cell_count a)

  pub count_in : Alternatives → ℕ
  count_in (only a) = cell_count a
  count_in (either a b) = cell_count a + cell_count b
