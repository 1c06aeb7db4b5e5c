-- What the words and the bytes of an instant stand for, where an expression stands in them, and what the functions of this crate
-- answer of it.
use Rattle.std.specs.Prelude.{ℕ, suc, ◌+◌, ◌*◌, ◌≤◌, ◌<◌, ◌≡◌, Bool, true, false, List, [], ◌∷◌, Option, Some, None, length, get_or, take, drop}
use Rattle.wires.specs.Sets.{member}
use Rattle.sheet.specs.Data.{ValueType, type_of_byte, is_kept, wire_type, datum_of}
use Rattle.sheet.specs.Expressions.{Expression, CellForm, cell_forms}
use Rattle.sheet.specs.Readings.{got, read_expression}
use Rattle.sheet.specs.Memory.{cell_bytes, read_cell, memory_bytes}
use Rattle.sheet.specs.declared.Cell.{Cell}
use Rattle.kernel.specs.Order.{value_at}
use Rattle.kernel.specs.Instant.{Environment, input_at, last_at, cell_at, value, stored}
use Rattle.kernel.specs.declared.Value.{Value}
use Rattle.kernel.specs.declared.Value.TheVariants.{Unknown, Known}
use Rattle.leaves.specs.Words.{first_input, first_last}
use Rattle.leaves.specs.declared.Valued.{Valued}
use Rattle.sheet_walk.specs.declared.Place.{Place}
use Rattle.expression.specs.declared.Basis.{Basis}

-- the value of a wire, from whether it is in the set of known wires and its word
abbrev pub value_of_word : Bool → ValueType → ℕ → Value
value_of_word false t word = Unknown
value_of_word true t word = Known (datum_of t word)

-- a set of known wires and the words stand for an environment's inputs, wires and kept wires' cells; types are type bytes
pub record Stands (inputs wires words : List ℕ) (bits : ℕ) (now : Environment) : Type 0 where
  pub input_limit : length inputs ≤ 16
  pub on_inputs : (i : ℕ) → i < length inputs
      → input_at now.inputs i ≡ datum_of (type_of_byte (get_or inputs i 0)) (get_or words (first_input + i) 0)
  pub wire_limit : length wires ≤ 64
  pub on_wires : (w : ℕ) → w < length wires
      → value_at now.wires w ≡ value_of_word (member bits w) (wire_type (get_or wires w 0)) (get_or words w 0)
  pub on_lasts : (w : ℕ) → w < length wires → is_kept (get_or wires w 0) ≡ true
      → last_at now.lasts w ≡ datum_of (wire_type (get_or wires w 0)) (get_or words (first_last + w) 0)

-- the bytes of cell k stand for a cell of the form
pub record CellStands (memory : List ℕ) (k : ℕ) (form : CellForm) (c : Cell) : Type 0 where
  pub fits : 5 * k + 5 ≤ length memory
  pub bytes : take 5 (drop (5 * k) memory) ≡ cell_bytes c
  pub reads : read_cell form.type memory k ≡ c

-- the cells of the forms, from number k on
pub data CellsStand (memory : List ℕ) (cells : List Cell) : ℕ → List CellForm → Type 0 where
  none : {k : ℕ} → CellsStand memory cells k []
  more : {k : ℕ} {form : CellForm} {forms : List CellForm} → CellStands memory k form (cell_at cells k)
      → CellsStand memory cells (suc k) forms → CellsStand memory cells k (form ∷ forms)

-- where an expression stands: it reads as a tree, and its cells stand in the memory from number `cell` on
pub record Placement (sheet memory words : List ℕ) (bits level asked at cell : ℕ) : Type 0 where
  pub inputs : List ℕ
  pub wires : List ℕ
  pub now : Environment
  pub tree : Expression
  pub next : ℕ
  pub count : ℕ
  pub reads : read_expression inputs wires sheet level asked at cell ≡ got tree next count
  pub stands : Stands inputs wires words bits now
  pub cells : CellsStand memory now.memory cell (cell_forms tree)

-- whatever type is asked of it
abbrev pub Placed : Basis → (level : ℕ) → Place → Type 0
Placed b level here = (asked : ℕ) × Placement b.sheet.now b.memory.now b.words.now b.known.bits level asked here.at here.cell

-- its kind byte
abbrev pub kind_at : Basis → Place → ℕ
kind_at b here = get_or b.sheet.now here.at 0

module _ {sheet memory words : List ℕ} {bits level asked at cell : ℕ} (p : Placement sheet memory words bits level asked at cell)
    (fresh : Bool) where
  abbrev pub whole_value : Value
  whole_value = value p.now fresh p.tree cell

  abbrev pub stored_bytes : List ℕ
  stored_bytes = memory_bytes (stored p.now fresh p.tree cell)

  -- its value is known and has this word, it ends at this place, and this is the number of the first cell past its own
  pub record Gives (word end following : ℕ) : Type 0 where
    pub value : whole_value ≡ Known (datum_of (type_of_byte asked) word)
    pub next : end ≡ p.next
    pub count : following ≡ p.count

  -- what a valuer hands back of it
  pub data Yields : Option Valued → Type 0 where
    unknown : whole_value ≡ Unknown → Yields None
    known : {v : Valued} → Gives v.word v.end.at v.end.cell → Yields (Some v)

-- it is handed back for every placement there
abbrev pub YieldsAt : Basis → (level : ℕ) → Place → Bool → Option Valued → Type 0
YieldsAt b level here fresh r =
    (asked : ℕ) (p : Placement b.sheet.now b.memory.now b.words.now b.known.bits level asked here.at here.cell) → Yields p fresh r
