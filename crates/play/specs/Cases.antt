-- Worked cases of the whole text, computed from the bytes: document 01's quarter sheet, inputs that are too short, refusals.
-- What the lines are in bytes stands in the cases of `lines`.
use Rattle.std.specs.Prelude.{ℕ, ◌≡◌, refl, List, [], ◌∷◌, ◌++◌, pos}
use Rattle.numbers.specs.Numbers.{settled, equals}
use Rattle.sheet.specs.Examples.{quarter_bytes}
use Rattle.sheet.specs.Expressions.{cell_forms, cell_count}
use Rattle.sheet.specs.Kinds.{meaning_of, operands_of}
use Rattle.sheet.specs.Outcomes.{lowest}
use Rattle.sheet.specs.Readings.{read_each, names_of, body_from, own_of, read_expression}
use Rattle.sheet.specs.Headers.{field_of, bytes_of, section_of}
use Rattle.sheet.specs.Sheets.{forms_of, kept_count, read_wires, outputs_from, wires_from, read_sheet, sheet_of}
use Rattle.sheet.specs.Memory.{memory_bytes, invalid_at, cells_from, memory_of, start_memory, start_outcome, start_call}
use Rattle.sheet.specs.Rows.{row_bytes, wrong_at, data_from, inputs_of}
use Rattle.sheet.specs.Lists.{among}
use Rattle.closure.specs.Closures.{through, lowest_loop}
use Rattle.kernel.specs.Waits.{wires_awaited, waits_for, lowest_waiting}
use Rattle.kernel.specs.Equality.{same_datum, same_value, same_values}
use Rattle.kernel.specs.Instant.{value, resting, stored}
use Rattle.kernel.specs.Systems as System
use Rattle.kernel.specs.Instants.{value_of_wire, values, stored_cells, lasts_from, round, rounds, finished, next_memory, output_row}
use Rattle.kernel.specs.Calls.{given_of, any_unknown, place_of_loop, accepted_of, in_rounds, rounds_call}
use Rattle.text.specs.Pieces.{numbers_of}
use Rattle.lines.specs.Lines.{short_line, refused_line, sheet_line, left_line, row_line}
use Rattle.play.specs.Text.{played, instants_text, bytes_text, play_text}

-- an input row of two entries
abbrev pair : ℕ → ℕ → List ℕ
pair a b = a ∷ 0 ∷ 0 ∷ 0 ∷ b ∷ 0 ∷ 0 ∷ 0 ∷ []

-- the quarter sheet behind its length
abbrev quarter : List ℕ
quarter = 40 ∷ 0 ∷ quarter_bytes

-- the block of document 01; no byte, and a sheet that lacks one; a sheet of no bytes; no row, and one that is not whole; a row with a
-- 2 for a Boolean, and one behind it; case B; the sheet of document 02's K5; a tamper flag, K7's
texts :
    play_text (quarter ++ pair 1 0 ++ pair 1 0 ++ pair 1 1 ++ pair 0 0 ++ pair 0 1)
    ∷ play_text []
    ∷ play_text (2 ∷ 0 ∷ 1 ∷ [])
    ∷ play_text (0 ∷ 0 ∷ [])
    ∷ play_text quarter
    ∷ play_text (quarter ++ 1 ∷ 0 ∷ 0 ∷ [])
    ∷ play_text (quarter ++ pair 1 2 ++ pair 0 0)
    ∷ play_text (7 ∷ 0 ∷ 0 ∷ 1 ∷ 1 ∷ 1 ∷ 0 ∷ 2 ∷ 0 ∷ [])
    ∷ play_text (16 ∷ 0 ∷ 0 ∷ 2 ∷ 1 ∷ 1 ∷ 1 ∷ 0 ∷ 8 ∷ 2 ∷ 1 ∷ 1 ∷ 1 ∷ 0 ∷ 0 ∷ 0 ∷ 2 ∷ 1 ∷ [])
    ∷ play_text (11 ∷ 0 ∷ 1 ∷ 0 ∷ 1 ∷ 2 ∷ 1 ∷ 0 ∷ 7 ∷ 18 ∷ 0 ∷ 3 ∷ 0 ∷ (pair 0 1 ++ (0 ∷ 0 ∷ 0 ∷ 0 ∷ [])))
    ∷ []
    ≡ (sheet_line 2 2 2 2
    ∷ row_line 0 (pos 1 ∷ pos 0 ∷ [])
    ∷ row_line 1 (pos 2 ∷ pos 1 ∷ [])
    ∷ row_line 2 (pos 1 ∷ pos 2 ∷ [])
    ∷ row_line 3 (pos 1 ∷ pos 1 ∷ [])
    ∷ row_line 4 (pos 0 ∷ pos 1 ∷ [])
    ∷ left_line 0
    ∷ [])
    ∷ (short_line ∷ [])
    ∷ (short_line ∷ [])
    ∷ (refused_line 1 0 ∷ [])
    ∷ (sheet_line 2 2 2 2 ∷ left_line 0 ∷ [])
    ∷ (sheet_line 2 2 2 2 ∷ left_line 3 ∷ [])
    ∷ (sheet_line 2 2 2 2 ∷ refused_line 15 1 ∷ [])
    ∷ (sheet_line 0 1 1 0 ∷ refused_line 20 0 ∷ [])
    ∷ (sheet_line 0 2 1 0 ∷ refused_line 20 1 ∷ [])
    ∷ (sheet_line 1 1 1 1 ∷ row_line 0 (pos 0 ∷ []) ∷ row_line 1 (pos 1 ∷ []) ∷ row_line 2 (pos 1 ∷ []) ∷ left_line 0 ∷ [])
    ∷ []
unfolding settled equals cell_forms cell_count meaning_of operands_of lowest
    read_each names_of body_from own_of read_expression field_of bytes_of section_of forms_of kept_count read_wires outputs_from wires_from read_sheet
    sheet_of memory_bytes invalid_at cells_from memory_of start_memory start_outcome start_call row_bytes wrong_at data_from inputs_of
    same_datum same_value same_values value resting stored
    System.after System.unchanged System.rounds System.finished
    value_of_wire values stored_cells lasts_from round rounds finished next_memory output_row
    through lowest_loop among wires_awaited waits_for lowest_waiting given_of any_unknown place_of_loop accepted_of in_rounds rounds_call
    numbers_of played instants_text bytes_text
texts = refl
