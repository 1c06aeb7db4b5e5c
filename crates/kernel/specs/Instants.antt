-- One instant of a sheet: the round, the rounds and the finished values, the outputs and the next memory.
use Rattle.std.specs.Prelude.{ℕ, zero, suc, ◌+◌, false, cond, List, [], ◌∷◌, ◌++◌, map, length}
use Rattle.sheet.specs.Data.{ValueType, datum_of}
use Rattle.sheet.specs.Expressions.{Expression, is_kept_wire, cell_count}
use Rattle.sheet.specs.Sheets.{Sheet}
use Rattle.sheet.specs.declared.Datum.{Datum}
use Rattle.sheet.specs.declared.Cell.{Cell}
use Rattle.kernel.specs.Values.{datum_in}
use Rattle.kernel.specs.Order.{value_at}
use Rattle.sheet.specs.Reads.{wires_read}
use Rattle.kernel.specs.Instant.{Environment, cell_at, held_or, value, stored}
use Rattle.kernel.specs.Systems as System
use Rattle.kernel.specs.declared.Value.{Value}
use Rattle.kernel.specs.declared.Value.TheVariants.{Unknown}

abbrev pub wire_count : Sheet → ℕ
wire_count sheet = length sheet.expressions

-- the wires that a wire's expression reads within the instant
unfoldable pub reads_at : List Expression → ℕ → List ℕ
reads_at [] w = []
reads_at (e ∷ es) zero = wires_read e
reads_at (e ∷ es) (suc w) = reads_at es w

-- The expressions in wire order, their cells from number k on.
module _ (now : Environment) where
  unfoldable pub value_of_wire : List Expression → ℕ → ℕ → Value
  value_of_wire [] k w = Unknown
  value_of_wire (e ∷ es) k zero = value now false e k
  value_of_wire (e ∷ es) k (suc w) = value_of_wire es (k + cell_count e) w

  unfoldable pub values : List Expression → ℕ → List Value
  values [] k = []
  values (e ∷ es) k = value now false e k ∷ values es (k + cell_count e)

  unfoldable pub stored_cells : List Expression → ℕ → List Cell
  stored_cells [] k = []
  stored_cells (e ∷ es) k = stored now false e k ++ stored_cells es (k + cell_count e)

-- what the first cell of a kept wire holds; of any other wire, which kind 18 never names, false or 0
abbrev pub last_in : ValueType → Expression → Cell → Datum
last_in t e cell = cond (is_kept_wire e) (held_or (datum_of t 0) cell) (datum_of t 0)

-- of each of the wires with these types and expressions, whose cells stand from number k on
unfoldable pub lasts_from : List Cell → List ValueType → List Expression → ℕ → List Datum
lasts_from memory [] es k = []
lasts_from memory (t ∷ ts) [] k = []
lasts_from memory (t ∷ ts) (e ∷ es) k = last_in t e (cell_at memory k) ∷ lasts_from memory ts es (k + cell_count e)

abbrev pub lasts_of : Sheet → List Cell → List Datum
lasts_of sheet memory = lasts_from memory sheet.wire_types sheet.expressions 0

module _ (sheet : Sheet) (inputs : List Datum) (memory : List Cell) where
  -- what the expressions of a sheet are worked out under
  abbrev pub under : List Value → Environment
  under wires = record { inputs = inputs; lasts = lasts_of sheet memory; memory = memory; wires = wires }

  -- all expressions worked out from the values before
  unfoldable pub round : List Value → List Value
  round wires = values (under wires) sheet.expressions 0

  unfoldable pub rounds : ℕ
  rounds = System.rounds (wire_count sheet) round

  unfoldable pub finished : List Value
  finished = System.finished (wire_count sheet) round

  -- all stored values are taken under the finished wire values and the old memory
  unfoldable pub next_memory : List Value → List Cell
  next_memory wires = stored_cells (under wires) sheet.expressions 0

unfoldable pub output_row : Sheet → List Value → List Datum
output_row sheet wires = map (λ w. datum_in (value_at wires w)) sheet.outputs
