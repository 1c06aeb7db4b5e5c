-- What the checks of a board's sheets and buffers find: the first refusal, or where the wanted sheet and its parts begin and end.
use Rattle.std.specs.Prelude.{ℕ, suc, ◌<◌, ◌≡◌, List, Result, Ok, Err, length, take}
use Rattle.sheet.specs.Outcomes.{Outcome, refusal, result}
use Rattle.sheet.specs.Sheets.{Sheet, sheet_forms}
use Rattle.sheet.specs.declared.Refused.{Refused}
use Rattle.board.specs.Boards.{length_place}
use Rattle.board.specs.Parts.{joined, inputs_in, outputs_in}
use Rattle.board_check.specs.declared.Begin.{Begin}
use Rattle.board_check.specs.declared.Span.{Span}

-- where a sheet and its parts begin, whose length stands at the place, behind these sheets
abbrev pub behind : (at : ℕ) (sheets : List Sheet) → Begin
behind at sheets =
    record {
      at = at;
      cells = length (joined sheet_forms sheets);
      inputs = length (joined inputs_in sheets);
      outputs = length (joined outputs_in sheets);
    }

-- where the sheet with number k and its parts begin
abbrev pub begin_at : (board : List ℕ) (sheets : List Sheet) (k : ℕ) → Begin
begin_at board sheets k = behind (length_place board k) (take k sheets)

-- the sheet with number k and its parts stand there
pub record Between (board : List ℕ) (sheets : List Sheet) (k : ℕ) (span : Span) : Type 0 where
  pub begins : span.from ≡ begin_at board sheets k
  pub ends : span.to ≡ begin_at board sheets (suc k)

-- the answer of the checks; where the wanted number names no sheet, what the span is is free
pub data Finds (board : List ℕ) (wanted : ℕ) : Outcome (List Sheet) → Result Span Refused → Type 0 where
  refuses : {refused : Refused} → Finds board wanted (refusal refused.why refused.place) (Err refused)
  finds : {sheets : List Sheet} {span : Span} → (wanted < length sheets → Between board sheets wanted span)
      → Finds board wanted (result sheets) (Ok span)
