-- What a sheet's part of a board's memory is known to be when the sheet is served.
use Rattle.std.specs.Prelude.{ℕ, ◌*◌, ◌≡◌, List, length}
use Rattle.sheet.specs.Outcomes.{result}
use Rattle.sheet.specs.Sheets.{Sheet, sheet_forms, sheet_of}

-- the bytes are those of a sheet that passes the check, and the part has the length of its memory
pub record Fits (s own : List ℕ) : Type 0 where
  pub sheet : Sheet
  pub read : sheet_of s ≡ result sheet
  pub sized : length own ≡ 5 * length (sheet_forms sheet)
