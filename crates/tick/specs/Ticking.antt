-- What the call of a tick leaves, beside its definition; and what is lent to the served sheet.
use Rattle.std.specs.Prelude.{ℕ, ◌<◌, ◌≡◌, Bool, List, Result, length}
use Rattle.sheet.specs.Outcomes.{result}
use Rattle.sheet.specs.Sheets.{Sheet, sheet_forms}
use Rattle.sheet.specs.declared.Refused.{Refused}
use Rattle.kernel.specs.Calls.{InstantCall}
use Rattle.kernel.specs.Answers.{InRounds}
use Rattle.board.specs.Boards.{bytes_of}
use Rattle.board.specs.Parts.{memory_part, input_part, output_part, with_part, outputs_in, passed_of}
use Rattle.board.specs.Serving.{every_cell, served_call}
use Rattle.board.specs.Ticks.{Turn, TickCall}
use Rattle.board_check.specs.Found.{Between}
use Rattle.board_check.specs.declared.Span.{Span}
use Rattle.board.specs.declared.Standing.{Standing}
use Rattle.board.specs.declared.Ticked.{Ticked}

abbrev pub turn_of : (memory input output : List ℕ) → (due restart : ℕ) → Turn
turn_of memory input output due restart = record { memory = memory; input = input; output = output; due = due; restart = restart }

-- answer, marks and number, memory and output row are those of the call
pub record Leaves (call : TickCall) (answer : Result Ticked Refused) (standing : Standing) (memory output : List ℕ) : Type 0 where
  pub answers : answer ≡ call.answer
  pub hands : standing ≡ call.standing
  pub stores : memory ≡ call.memory
  pub writes : output ≡ call.output

-- the buffers of a board pass all checks, and the parts of one of its sheets stand there
pub record Parted (board memory input output : List ℕ) (span : Span) : Type 0 where
  pub sheets : List Sheet
  pub number : ℕ
  pub passes : passed_of board memory input output ≡ result sheets
  pub is_sheet : number < length sheets
  pub between : Between board sheets number span

module _ {board memory input output : List ℕ} {span : Span} (p : Parted board memory input output span) (restarts : Bool) where
  -- the instant of that sheet
  abbrev pub part_instant : InstantCall InRounds
  part_instant =
      served_call every_cell restarts (bytes_of board p.number) (memory_part p.sheets p.number memory)
      (input_part p.sheets p.number input) (output_part p.sheets p.number output)

  -- the answer is that of the instant, and what it leaves stands in the sheet's parts
  pub record ServesPart (answer : InRounds) (stored written : List ℕ) : Type 0 where
    pub answers : answer ≡ part_instant.answer
    pub stores : stored ≡ with_part 5 sheet_forms p.sheets p.number part_instant.memory memory
    pub writes : written ≡ with_part 4 outputs_in p.sheets p.number part_instant.output output
