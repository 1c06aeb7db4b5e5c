-- Isolation, as it is said of two turns: what they must have in common for a sheet, and what then is the same for it.
use Rattle.std.specs.Prelude.{◌≡◌, ℕ, true, List}
use Rattle.sheet.specs.Sheets.{Sheet}
use Rattle.board.specs.Parts.{memory_part, input_part, output_part}
use Rattle.board.specs.Ticks.{Turn, TickCall}
use Rattle.board.specs.Runs.{serves}

-- two turns with the same marks and the same bytes in the parts of sheet k: all other bytes of memory, input row and output row may differ
pub record AlikeFor (sheets : List Sheet) (k : ℕ) (one other : Turn) : Type 0 where
  pub due : other.due ≡ one.due
  pub restart : other.restart ≡ one.restart
  pub memory : memory_part sheets k other.memory ≡ memory_part sheets k one.memory
  pub input : input_part sheets k other.input ≡ input_part sheets k one.input
  pub output : output_part sheets k other.output ≡ output_part sheets k one.output

-- two ticks that give the same for sheet k: marks and number, the sheet's next memory and its outputs; and where it is served, the answer
pub record SameFor (sheets : List Sheet) (k : ℕ) (one other : TickCall) : Type 0 where
  pub standing : other.standing ≡ one.standing
  pub memory : memory_part sheets k other.memory ≡ memory_part sheets k one.memory
  pub output : output_part sheets k other.output ≡ output_part sheets k one.output
  pub served : serves k other.answer ≡ serves k one.answer
  pub answer : serves k one.answer ≡ true → other.answer ≡ one.answer
