-- What a wire of a sheet reaches by one or more reads within the instant.
use Rattle.std.specs.Prelude.{◌≡◌, ℕ, Bool, true, List}
use Rattle.sheet.specs.Lists.{among}
use Rattle.sheet.specs.Sheets.{Sheet}
use Rattle.closure.specs.Closures.{Closure, through}
use Rattle.kernel.specs.Instants.{wire_count, reads_at}

module _ (sheet : Sheet) where
  abbrev pub reads_of : ℕ → List ℕ
  reads_of = reads_at sheet.expressions

  -- v reads w within the instant: as a test, and as a relation
  abbrev pub reads : ℕ → ℕ → Bool
  reads v w = among w (reads_of v)

  abbrev pub Reads : ℕ → ℕ → Type 0
  Reads v w = reads v w ≡ true

  -- directly or through others
  abbrev pub Reaches : ℕ → ℕ → Type 0
  Reaches = Closure Reads

  -- the test of a wire that reaches itself
  unfoldable pub reaches_itself : ℕ → Bool
  reaches_itself w = through reads (wire_count sheet) w w
