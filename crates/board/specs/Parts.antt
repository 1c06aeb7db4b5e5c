-- The parts of the one memory, input row and output row: consecutive, in board order. 12 to 16 are asked of the whole, with cells and inputs
-- numbered through the board.
use Rattle.std.specs.Prelude.{ℕ, ◌+◌, ◌*◌, List, [], ◌∷◌, ◌++◌, length, take, drop, get_or}
use Rattle.sheet.specs.Data.{ValueType}
use Rattle.sheet.specs.Outcomes.{Outcome, result, followed_by, unless_length}
use Rattle.sheet.specs.Sheets.{Sheet, sheet_forms}
use Rattle.sheet.specs.Memory.{memory_of}
use Rattle.sheet.specs.Rows.{inputs_of}
use Rattle.sheet.specs.declared.Refusal.TheVariants.{OutputLength}
use Rattle.board.specs.Boards.{board_of}

-- what the sheets have of one sort, joined in board order
unfoldable pub joined : {A : Type 0} → (Sheet → List A) → List Sheet → List A
joined of [] = []
joined of (sheet ∷ sheets) = of sheet ++ joined of sheets

-- Of cells there are the forms, of inputs the types, of outputs the wires.
abbrev pub inputs_in : Sheet → List ValueType
inputs_in sheet = sheet.input_types

abbrev pub outputs_in : Sheet → List ℕ
outputs_in sheet = sheet.outputs

-- the sheet with a number; one without wires where none has it
abbrev pub sheet_at : List Sheet → ℕ → Sheet
sheet_at sheets k = get_or sheets k (record { input_types = []; wire_types = []; outputs = []; expressions = [] })

-- `long` bytes of a buffer from a place on, and the buffer with others in their stead
unfoldable pub cut : (from long : ℕ) → List ℕ → List ℕ
cut from long buffer = take long (drop from buffer)

unfoldable pub put : (from long : ℕ) → (new buffer : List ℕ) → List ℕ
put from long new buffer = take from buffer ++ (new ++ drop (from + long) buffer)

-- A buffer with so many bytes to each of what the sheets have: sheet k's part lies behind those of the sheets before.
module _ {A : Type 0} (bytes : ℕ) (of : Sheet → List A) (sheets : List Sheet) (k : ℕ) where
  abbrev pub begin : ℕ
  begin = bytes * length (joined of (take k sheets))

  abbrev pub size : ℕ
  size = bytes * length (of (sheet_at sheets k))

  abbrev pub part : List ℕ → List ℕ
  part = cut begin size

  abbrev pub with_part : (new buffer : List ℕ) → List ℕ
  with_part = put begin size

-- the sheets, or 22, 1 to 11 of each, or 12 to 16 of the whole
unfoldable pub passed_of : (board memory input output : List ℕ) → Outcome (List Sheet)
passed_of board memory input output =
    followed_by (board_of board) (λ sheets.
    followed_by (memory_of (joined sheet_forms sheets) memory) (λ cells.
    followed_by (inputs_of (joined inputs_in sheets) input) (λ inputs.
    unless_length OutputLength (length output) (4 * length (joined outputs_in sheets))
    (result sheets))))

module _ (sheets : List Sheet) (k : ℕ) where
  abbrev pub memory_part : List ℕ → List ℕ
  memory_part = part 5 sheet_forms sheets k

  abbrev pub input_part : List ℕ → List ℕ
  input_part = part 4 inputs_in sheets k

  abbrev pub output_part : List ℕ → List ℕ
  output_part = part 4 outputs_in sheets k
