-- What is known between the sheets of a board: the tables hold the cells' forms and the inputs' types of those that are done.
use Rattle.std.specs.Prelude.{ℕ, suc, ◌+◌, ◌≤◌, ◌<◌, ◌≡◌, List, [], ◌∷◌, ◌++◌, Result, Ok, Err, map, length, take}
use Rattle.sheet.specs.Data.{type_of_byte}
use Rattle.sheet.specs.Outcomes.{Outcome, refusal, result}
use Rattle.sheet.specs.Sheets.{Sheet, sheet_forms}
use Rattle.sheet.specs.Typing.{Pairwise}
use Rattle.sheet.specs.declared.Counts.{Counts}
use Rattle.sheet.specs.declared.Refused.{Refused}
use Rattle.buffers.specs.Tests.{Holds}
use Rattle.board.specs.Boards.{length_at, length_place}
use Rattle.board.specs.Parts.{joined, inputs_in}
use Rattle.board_check.specs.Found.{behind, Between}
use Rattle.board_check.specs.declared.Begin.{Begin}
use Rattle.board_check.specs.declared.Walked.{Walked}

-- where the next sheet and its parts begin, whose length stands at the place, behind what a sheet with these counts has
abbrev pub further_of : (here : Begin) (at : ℕ) (counts : Counts) → Begin
further_of here at counts =
    record {
      at = at;
      cells = here.cells + counts.cells;
      inputs = here.inputs + counts.inputs;
      outputs = here.outputs + counts.outputs;
    }

-- the tables have room for eight sheets, and begin with the entries of the sheets' cells and the type bytes of their inputs
pub record Collected (sheets : List Sheet) (forms types : List ℕ) : Type 0 where
  pub cells : Pairwise Holds (joined sheet_forms sheets) (take (length (joined sheet_forms sheets)) forms)
  pub inputs : map type_of_byte (take (length (joined inputs_in sheets)) types) ≡ joined inputs_in sheets
  pub forms_sized : length forms ≡ 512
  pub types-sized : length types ≡ 128

-- the sheet that begins here ends within the board, and there is room for its parts
pub record Room (board : List ℕ) (here : Begin) (forms types : List ℕ) : Type 0 where
  pub within : here.at + 2 + length_at board here.at ≤ length board
  pub cells : here.cells + 64 ≤ 512
  pub inputs : here.inputs + 16 ≤ 128
  pub outputs : here.outputs + 16 ≤ 128
  pub forms_sized : length forms ≡ 512
  pub types-sized : length types ≡ 128

-- one sheet has at most so many cells, inputs and outputs
pub record Further (here next : Begin) : Type 0 where
  pub cells : next.cells ≤ here.cells + 64
  pub inputs : next.inputs ≤ here.inputs + 16
  pub outputs : next.outputs ≤ here.outputs + 16

-- the answer for the sheet with number k, behind those that are done, and what the tables then hold
pub data Steps (board : List ℕ) (k : ℕ) (here : Begin) (done : List Sheet) (forms types : List ℕ)
    : Outcome Sheet → Result Begin Refused → Type 0 where
  stops : {refused : Refused} → Steps board k here done forms types (refusal refused.why refused.place) (Err refused)
  goes : {sheet : Sheet} {next : Begin} → next ≡ behind (length_place board (suc k)) (done ++ sheet ∷ []) → Further here next
      → Collected (done ++ sheet ∷ []) forms types → Steps board k here done forms types (result sheet) (Ok next)

-- eight sheets have at most so many cells, inputs and outputs
pub record Fits (end : Begin) : Type 0 where
  pub cells : end.cells ≤ 512
  pub inputs : end.inputs ≤ 128
  pub outputs : end.outputs ≤ 128

-- the answer for all sheets, and what the tables then hold
pub data Walks (board : List ℕ) (wanted : ℕ) (forms types : List ℕ) : Outcome (List Sheet) → Result Walked Refused → Type 0 where
  refuses : {refused : Refused} → Walks board wanted forms types (refusal refused.why refused.place) (Err refused)
  passes : {sheets : List Sheet} {walked : Walked} → (wanted < length sheets → Between board sheets wanted walked.span)
      → walked.end ≡ behind (length_place board (length sheets)) sheets → Fits walked.end → Collected sheets forms types
      → Walks board wanted forms types (result sheets) (Ok walked)
