-- What the player prints: from the bytes of its input to the lines of its text. Each part stands before the whole, so that document 01,
-- "The player", is read from the last definition up. Rests on `lines` for the lines, and on the calls that `sheet` and `kernel` define.
use Rattle.std.specs.Prelude.{Ok, Err}
use Rattle.std.specs.Prelude.{ℕ, zero, suc, ◌+◌, ◌*◌, ◌/◌, Bool, cond, ◌&&◌, List, [], ◌∷◌, length, get_or, take, drop, replicate, eqb, leb}
use Rattle.sheet.specs.Outcomes.{number_of}
use Rattle.sheet.specs.Sheets.{check_of}
use Rattle.sheet.specs.Memory.{start_call}
use Rattle.kernel.specs.Calls.{InstantCall, rounds_call}
use Rattle.kernel.specs.Answers.{InRounds}
use Rattle.text.specs.Pieces.{numbers_of}
use Rattle.lines.specs.Lines.{short_line, refused_line, sheet_line, left_line, row_line}
use Rattle.sheet.specs.declared.Counts.{Counts}
use Rattle.sheet.specs.declared.Refused.{Refused}
use Rattle.std.specs.Prelude.{Ok, Err}
use Rattle.std.specs.Prelude.{Result}

-- the first 65,536 bytes of the input; those behind them do not exist
unfoldable pub played : List ℕ → List ℕ
played input = take 65536 input

-- the sheet's length: two bytes, low first
abbrev pub length_at : List ℕ → ℕ
length_at bytes = get_or bytes 0 0 + 256 * get_or bytes 1 0

-- the sheet, and the input rows behind it
abbrev pub sheet_in : List ℕ → List ℕ
sheet_in bytes = take (length_at bytes) (drop 2 bytes)

abbrev pub rows_in : List ℕ → List ℕ
rows_in bytes = drop (2 + length_at bytes) bytes

-- what a buffer holds before a call writes it
abbrev pub zeros : ℕ → List ℕ
zeros n = replicate n 0

-- one instant for each whole row of `size` bytes; a sheet without inputs runs 16
abbrev pub instants_due : (size bytes : ℕ) → ℕ
instants_due size bytes = cond (eqb size 0) 16 (bytes / size)

-- an instant's line, and those of the instants behind it; a refused instant ends the printing
abbrev pub instant_text : InRounds → (row : List ℕ) → (rest : List (List ℕ)) → List (List ℕ)
instant_text (Err r) row rest = refused_line (number_of r.why) r.place ∷ []
instant_text (Ok rounds) row rest = row ∷ rest

-- the instants of a sheet whose rows have so many bytes: as many as are due, from instant `turn` on, and last the bytes not used
module _ (s : List ℕ) (inputSize output_size : ℕ) where
  abbrev pub instant_of : (memory rows : List ℕ) → InstantCall InRounds
  instant_of memory rows = rounds_call s memory (take inputSize rows) (zeros output_size)

  unfoldable pub instants_text : (due turn : ℕ) → (memory rows : List ℕ) → List (List ℕ)
  instants_text zero turn memory rows = left_line (length rows) ∷ []
  instants_text (suc due) turn memory rows =
      let call = instant_of memory rows in
      instant_text call.answer (row_line turn (numbers_of call.output))
      (instants_text due (turn + 1) call.memory (drop inputSize rows))

-- a refused sheet is one line; else its four counts, and the instants from the starting memory
abbrev pub checked_text : Result Counts Refused → (s rows : List ℕ) → List (List ℕ)
checked_text (Err r) s rows = refused_line (number_of r.why) r.place ∷ []
checked_text (Ok counts) s rows =
    sheet_line counts.inputs counts.wires counts.outputs counts.cells
    ∷ instants_text s (4 * counts.inputs) (4 * counts.outputs) (instants_due (4 * counts.inputs) (length rows)) 0
    (start_call s (zeros (5 * counts.cells))).memory rows

-- whether the two length bytes and the sheet are complete
abbrev pub is_complete : List ℕ → Bool
is_complete bytes = leb 2 (length bytes) && leb (2 + length_at bytes) (length bytes)

-- `short` alone where they are not
unfoldable pub bytes_text : List ℕ → List (List ℕ)
bytes_text bytes =
    cond (is_complete bytes) (checked_text (check_of (sheet_in bytes)) (sheet_in bytes) (rows_in bytes)) (short_line ∷ [])

-- the text of an input
abbrev pub play_text : List ℕ → List (List ℕ)
play_text input = bytes_text (played input)
