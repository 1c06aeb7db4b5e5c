-- The counts that the check of a sheet answers.
use Rattle.std.specs.Prelude.{ℕ, ◌≤◌, ◌≡◌, List}
use Rattle.sheet.specs.Sheets.{check_of}
use Rattle.join.specs.Calls.{passed_with}
use Rattle.sheet.specs.declared.Counts.{Counts}

-- the sheet passes the check, which answers these counts
abbrev pub Passes : (s : List ℕ) (counts : Counts) → Type 0
Passes s counts = check_of s ≡ passed_with counts

-- the counts are within their limits
pub record Few (counts : Counts) : Type 0 where
  pub inputs : counts.inputs ≤ 16
  pub wires : counts.wires ≤ 64
  pub outputs : counts.outputs ≤ 16
  pub cells : counts.cells ≤ 64
