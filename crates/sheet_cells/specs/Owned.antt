-- The cell that the expression at a place owns, as bytes.
use Rattle.std.specs.Prelude.{ℕ, cond, List, [], eqb, get_or}
use Rattle.sheet.specs.Kinds.{cells_of}
use Rattle.sheet.specs.Memory.{cell_bytes, own_cell}
use Rattle.sheet.specs.Readings.{body_at}

-- the bytes of the cell that the expression at a place owns, if it owns one
abbrev pub own_bytes : List ℕ → ℕ → List ℕ
own_bytes s at = cond (eqb (cells_of (get_or s at 0)) 0) [] (cell_bytes (own_cell (get_or s at 0) (body_at s at)))
