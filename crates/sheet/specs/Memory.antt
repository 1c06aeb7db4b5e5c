-- A memory as bytes: its cells, which of them are valid (12 and 13), and the starting memory.
use Rattle.std.specs.Prelude.{ℕ, suc, ◌+◌, ◌*◌, Bool, true, false, not, ◌&&◌, cond, List, [], ◌∷◌, ◌++◌, map, length, get_or, eqb}
use Rattle.numbers.specs.Words.{word_at, word_bytes}
use Rattle.sheet.specs.Data.{ValueType, boolean, number, type_of_byte, stands_for, datum_of, word_of}
use Rattle.sheet.specs.Kinds.{Owned, no_cell, pre-cell, fby-cell, state-cell, owned_of, own_type_of}
use Rattle.sheet.specs.Expressions.{CellForm, fby_cell}
use Rattle.sheet.specs.Outcomes.{Outcome, result, followed_by, holds_after, unless_length, unless_any, done_of, packed_answer}
use Rattle.sheet.specs.Sheets.{sheet_forms, sheet_of}
use Rattle.sheet.specs.declared.Datum.TheVariants.{Boolean}
use Rattle.sheet.specs.declared.Cell.{Cell}
use Rattle.sheet.specs.declared.Cell.TheVariants.{NotStarted, Started}
use Rattle.sheet.specs.declared.Refusal.TheVariants.{MemoryLength, CellContent}
use Rattle.sheet.specs.declared.Refused.{Refused}
use Rattle.std.specs.Prelude.{Result}

-- A cell is 5 bytes: a mark, 0 not started or 1 started, then a value.
abbrev pub cell_bytes : Cell → List ℕ
cell_bytes NotStarted = 0 ∷ word_bytes 0
cell_bytes (Started d) = 1 ∷ word_bytes (word_of d)

unfoldable pub memory_bytes : List Cell → List ℕ
memory_bytes [] = []
memory_bytes (c ∷ cs) = cell_bytes c ++ memory_bytes cs

abbrev pub mark_at : List ℕ → ℕ → ℕ
mark_at memory k = get_or memory (5 * k) 0

abbrev pub cell_word_at : List ℕ → ℕ → ℕ
cell_word_at memory k = word_at memory (5 * k + 1)

-- the cell with number k, which holds data of the type
abbrev pub read_cell : ValueType → List ℕ → ℕ → Cell
read_cell t memory k = cond (eqb (mark_at memory k) 0) NotStarted (Started (datum_of t (cell_word_at memory k)))

abbrev pub starts_empty : Cell → Bool
starts_empty NotStarted = true
starts_empty (Started d) = false

-- the type byte of a type
abbrev pub type_byte : ValueType → ℕ
type_byte boolean = 0
type_byte number = 1

-- a cell's form as one byte: its type byte, and 2 more where it starts empty, as an fby's does
abbrev pub form_byte : CellForm → ℕ
form_byte form = type_byte form.type + cond (starts_empty form.start) 2 0

-- valid: mark 0 only for fby and then value 0; mark 1 with a value of its type
abbrev pub valid_cell : CellForm → (mark word : ℕ) → Bool
valid_cell form mark word =
    cond (eqb mark 0) (starts_empty form.start && eqb word 0) (eqb mark 1 && stands_for form.type word)

module _ (forms : List CellForm) where
  abbrev form_at : ℕ → CellForm
  form_at k = get_or forms k (fby_cell boolean)

  unfoldable pub invalid_at : List ℕ → ℕ → Bool
  invalid_at memory k = not (valid_cell (form_at k) (mark_at memory k) (cell_word_at memory k))

-- the cells of these forms, from number k on
unfoldable pub cells_from : List ℕ → ℕ → List CellForm → List Cell
cells_from memory k [] = []
cells_from memory k (f ∷ fs) = read_cell f.type memory k ∷ cells_from memory (suc k) fs

-- the cells of a memory, or 12 or 13
unfoldable pub memory_of : List CellForm → List ℕ → Outcome (List Cell)
memory_of forms memory =
    unless_length MemoryLength (length memory) (5 * length forms)
    (unless_any CellContent (invalid_at forms memory) (length forms)
    (result (cells_from memory 0 forms)))

-- each cell as it is at the start
unfoldable pub start_memory : List CellForm → List Cell
start_memory = map (λ f. f.start)

abbrev owned_cell : Owned → (type body : ℕ) → Cell
owned_cell no_cell type body = NotStarted
owned_cell pre-cell type body = Started (datum_of (type_of_byte type) body)
owned_cell fby-cell type body = NotStarted
owned_cell state-cell type body = Started (Boolean false)

-- the cell that an expression of kind k owns, as it is at the start, by the number in its body
abbrev pub own_cell : (k body : ℕ) → Cell
own_cell k = owned_cell (owned_of k) (own_type_of k)

-- the start: the bytes of the starting memory, or 1 to 12
unfoldable pub start_outcome : (s memory : List ℕ) → Outcome (List ℕ)
start_outcome s memory =
    followed_by (sheet_of s) (λ sheet.
    unless_length MemoryLength (length memory) (5 * length (sheet_forms sheet))
    (result (memory_bytes (start_memory (sheet_forms sheet)))))

-- what the call of the start leaves
pub record StartCall : Type 0 where
  pub answer : Result (Unit {0}) Refused
  pub memory : List ℕ

unfoldable pub start_call : (s memory : List ℕ) → StartCall
start_call s memory =
    record { answer = done_of (start_outcome s memory); memory = holds_after (start_outcome s memory) (λ bytes. bytes) memory }

-- the number that the C library returns
abbrev pub packed_started : Result (Unit {0}) Refused → ℕ
packed_started = packed_answer (λ done. 0)
