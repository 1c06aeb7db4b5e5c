-- Worked cases of a board of two small sheets: ticks one after the other, and refusals at each place. One test runs each through the outcome of the
-- call, and it holds of every row.
use Rattle.std.specs.Prelude.{ℕ, ◌+◌, ◌*◌, ◌/◌, ◌%◌, ◌≡◌, refl, Bool, true, ◌&&◌, List, [], ◌∷◌, ◌++◌, eqb, length, take, drop, set, get_or}
use Rattle.numbers.specs.Numbers.{settled}
use Rattle.wires.specs.Sets.{member}
use Rattle.sheet.specs.Expressions.{cell_forms, cell_count}
use Rattle.sheet.specs.Kinds.{meaning_of, operands_of}
use Rattle.sheet.specs.Outcomes.{lowest}
use Rattle.sheet.specs.Readings.{read_each, names_of, body_from, own_of, read_expression}
use Rattle.sheet.specs.Headers.{field_of, bytes_of, section_of}
use Rattle.sheet.specs.Lists.{among}
use Rattle.sheet.specs.Sheets.{forms_of, kept_count, read_wires, outputs_from, wires_from, read_sheet, sheet_of}
use Rattle.sheet.specs.Memory.{memory_bytes, invalid_at, cells_from, memory_of, start_memory, start_outcome, start_call}
use Rattle.sheet.specs.Rows.{row_bytes, wrong_at, data_from, inputs_of}
use Rattle.closure.specs.Closures.{through, lowest_loop}
use Rattle.kernel.specs.Cases.{same_bytes, all, rubbish}
use Rattle.kernel.specs.Equality.{same_datum, same_value, same_values}
use Rattle.kernel.specs.Instant.{value, resting, stored}
use Rattle.kernel.specs.Waits.{wires_awaited, waits_for, lowest_waiting}
use Rattle.kernel.specs.Systems as System
use Rattle.kernel.specs.Instants.{values, stored_cells, lasts_from, round, rounds, finished, next_memory, output_row}
use Rattle.kernel.specs.Calls.{given_of, any_unknown, place_of_loop, accepted_of, in_rounds, rounds_call}
use Rattle.board.specs.Boards.{length_place, frame_of, sheets_from, board_of}
use Rattle.board.specs.Parts.{joined, cut, put, passed_of}
use Rattle.board.specs.Marks.{marks_of, first_due}
use Rattle.board.specs.Serving.{Restart, every_cell, served_call}
use Rattle.board.specs.Ticks.{Turn, TickCall, serve, tick_call, packed_tick}
use Rattle.board.specs.declared.Standing.{Standing}

-- no input; one number wire, which is kept: 1 more than its last value, from 0
abbrev pub counter : List ℕ
counter = 0 ∷ 1 ∷ 3 ∷ 1 ∷ 0 ∷ 8 ∷ 18 ∷ 0 ∷ 1 ∷ 1 ∷ 0 ∷ 0 ∷ 0 ∷ []

-- one Boolean input; one number wire, itself where the input is present, else 5 and then 1 more each time
abbrev pub looper : List ℕ
looper =
    1 ∷ 0 ∷ 1 ∷ 1 ∷ 1 ∷ 0
    ∷ 13 ∷ 3 ∷ 0 ∷ 2 ∷ 0 ∷ 17 ∷ 1 ∷ 5 ∷ 0 ∷ 0 ∷ 0 ∷ 8 ∷ 2 ∷ 0 ∷ 1 ∷ 1 ∷ 0 ∷ 0 ∷ 0 ∷ []

abbrev pub framed : List ℕ → List ℕ
framed sheet = length sheet % 256 ∷ length sheet / 256 ∷ sheet

-- the counter begins at 3, the looper at 18
abbrev pub two : List ℕ
two = 2 ∷ (framed counter ++ framed looper)

-- a number as an entry of a row or the value of a cell
abbrev word : ℕ → List ℕ
word n = n ∷ 0 ∷ 0 ∷ 0 ∷ []

-- a refusal as one number
abbrev packed : (number place : ℕ) → ℕ
packed number place = number * 65536 + place

-- one tick: due marks, restart marks, the looper's input; then the answer as one number, both outputs' lowest bytes, stored marks and number
pub data Row : Type 0 where
  row : (due restart input answer first second stored number : ℕ) → Row

abbrev at : (memory output : List ℕ) → (due restart input : ℕ) → Turn
at memory output due restart input =
    record { memory = memory; input = word input; output = output; due = due; restart = restart }

-- what a tick leaves is what the row has
abbrev pub matches : TickCall → (answer first second stored number : ℕ) → Bool
matches now answer first second stored number =
    eqb (packed_tick now.answer) answer && eqb (get_or now.output 0 0) first && eqb (get_or now.output 4 0) second
    && eqb now.standing.stored stored && eqb now.standing.number number

-- each tick is given what the one before left
unfoldable pub plays : Restart → (memory output : List ℕ) → Standing → List Row → Bool
plays rule memory output standing [] = true
plays rule memory output standing (row due restart input answer first second stored number ∷ rows) =
    let now = tick_call rule two (at memory output due restart input) standing in
    matches now answer first second stored number && plays rule now.memory now.output now.standing rows

-- both sheets as they are at the start
abbrev pub at_start : List ℕ
at_start = (1 ∷ word 0) ++ (0 ∷ word 0)

-- 170 is what the outputs held before; an answer of 2 is 2 rounds
unfoldable pub rows : List Row
rows =
    -- a new board, whose number 255 counts as the last sheet's; marks 2 to 7 are dropped
    row 255 0 0 2 1 170 2 0
    -- the looper waited and is marked again: it is served once
    ∷ row 2 0 0 2 1 5 0 1
    -- none is due, whatever the restart marks: the number is kept
    ∷ row 252 3 0 0 1 5 0 1
    -- only the sheet served last is due
    ∷ row 2 0 0 2 1 6 0 1
    -- the looper's wire stays unknown: 20, nothing is written, and it counts as served
    ∷ row 3 0 1 2 2 6 2 0
    ∷ row 1 0 1 (packed 20 0) 2 6 1 1
    -- a restart mark for a sheet that is not served counts for nothing, and is not stored
    ∷ row 2 2 0 2 3 6 2 0
    ∷ row 0 0 0 2 3 7 0 1
    -- restarted, and refused 20 under a restart
    ∷ row 3 1 0 2 1 7 2 0
    ∷ row 0 2 1 (packed 20 0) 1 7 0 1
    ∷ row 2 0 0 2 1 8 0 1
    ∷ row 2 2 0 2 1 5 0 1
    ∷ []

unfoldable pub rows_hold : Bool
rows_hold = plays every_cell at_start (rubbish 8) (record { stored = 0; number = 255 }) rows

-- a board and its buffers, and what a tick refuses in which all sheets are marked
pub data Refusing : Type 0 where
  refuses : (board memory input output : List ℕ) → (number place : ℕ) → Refusing

-- refused, the tick leaves all as it was: buffers, marks and number
unfoldable pub is_refused : Refusing → Bool
is_refused (refuses board memory input output number place) =
    let turn : Turn = record { memory = memory; input = input; output = output; due = 255; restart = 255 } in
    let now = tick_call every_cell board turn (record { stored = 2; number = 7 }) in
    eqb (packed_tick now.answer) (packed number place) && same_bytes now.memory memory && same_bytes now.output output
    && eqb now.standing.stored 2 && eqb now.standing.number 7

-- the frame comes first
abbrev misframed : (board : List ℕ) → (place : ℕ) → Refusing
misframed board place = refuses board [] [] [] 22 place

unfoldable pub refusals : List Refusing
refusals =
    -- the count is missing, or out of range
    misframed [] 0
    ∷ misframed (0 ∷ framed counter) 0
    ∷ misframed (9 ∷ framed counter) 0
    -- the first length is missing, cut, or runs past the end
    ∷ misframed (1 ∷ []) 1
    ∷ misframed (1 ∷ 13 ∷ []) 1
    ∷ misframed (take 15 (1 ∷ framed counter)) 1
    -- the second one
    ∷ misframed (2 ∷ framed counter) 16
    ∷ misframed (take 17 two) 16
    ∷ misframed (take 42 two) 16
    -- bytes are left over, also behind a sheet that is none
    ∷ misframed (two ++ (7 ∷ 7 ∷ [])) 43
    ∷ misframed (1 ∷ 0 ∷ 0 ∷ 0 ∷ []) 3
    -- a sheet of length 0, and one that is cut: the places are counted in the board
    ∷ refuses (2 ∷ (framed counter ++ framed [])) [] [] [] 1 18
    ∷ refuses (2 ∷ (framed counter ++ framed (take 24 looper))) [] [] [] 2 42
    -- of two bad sheets the first
    ∷ refuses (2 ∷ (framed (1 ∷ 2 ∷ []) ++ framed [])) [] [] [] 4 4
    -- the whole memory and the whole rows: the looper's cell has number 1, and behind another looper its input has number 1
    ∷ refuses two (drop 1 at_start) [] [] 12 0
    ∷ refuses two (set at_start 5 2) [] [] 13 1
    ∷ refuses two at_start [] [] 14 0
    ∷ refuses two at_start (word 2) [] 15 0
    ∷ refuses (2 ∷ (framed looper ++ framed looper)) ((0 ∷ word 0) ++ (0 ∷ word 0)) (word 1 ++ word 2) [] 15 1
    ∷ refuses two at_start (word 0) (rubbish 4) 16 0
    ∷ []

-- and so it is, of every row
pub record CasesHold : Type 0 where
  pub ticks : rows_hold ≡ true
  pub refused : all is_refused refusals ≡ true

pub cases-hold : CasesHold
unfolding settled member cell_forms cell_count meaning_of operands_of lowest
    read_each names_of body_from own_of read_expression field_of bytes_of section_of forms_of kept_count read_wires outputs_from wires_from read_sheet
    sheet_of among memory_bytes invalid_at cells_from memory_of start_memory start_outcome start_call row_bytes wrong_at data_from inputs_of
    through lowest_loop same_datum same_value same_values wires_awaited waits_for lowest_waiting value resting stored
    System.after System.unchanged System.rounds System.finished
    values stored_cells lasts_from round rounds finished next_memory output_row given_of any_unknown place_of_loop accepted_of in_rounds rounds_call
    length_place frame_of sheets_from board_of joined cut put passed_of marks_of first_due served_call serve tick_call
    same_bytes all plays rows rows_hold is_refused refusals
cases-hold = record { ticks = refl; refused = refl }
