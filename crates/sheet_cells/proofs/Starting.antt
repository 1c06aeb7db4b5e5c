-- The starting bytes of cells of some forms, and those of one expression's own cell.
use Prim.Native.Nat.{ℕ, ◌*◌, ◌<◌}
use mathlib.Core.Path.{◌≡◌, refl, ap, ◌∙◌}
use mathlib.Core.Bool.{Bool, true, false, cond}
use mathlib.Core.List.{List, [], ◌∷◌, ◌++◌, append_assoc, append-nil}
use lib.Dec.{eqb}
use lib.ListN.{length, get_or}
use Rattle.sheet.specs.Data.{type_of_byte}
use Rattle.sheet.specs.Expressions.{CellForm}
use Rattle.sheet.specs.Kinds.{cells_of, own_forms, found_of, kind_count}
use Rattle.sheet.specs.Readings.{body_at}
use Rattle.sheet.specs.Memory.{cell_bytes, memory_bytes, start_memory, own_cell}
use Rattle.sheet.proofs.Laws.Memory.{cell-length}
use Rattle.sheet.specs.Laws.Readings.{own-starts, every-kind, ◌▸◌, end}
use Rattle.sheet.specs.declared.Cell.{Cell}
use Rattle.sheet_cells.specs.Owned.{own_bytes}

-- the starting bytes of cells of these forms
abbrev pub start_bytes : List CellForm → List ℕ
start_bytes forms = memory_bytes (start_memory forms)

pub start-append : (a b : List CellForm) → start_bytes (a ++ b) ≡ start_bytes a ++ start_bytes b
unfolding memory_bytes start_memory
start-append [] b = refl
start-append (f ∷ a) b = rw (start-append a b, append_assoc)

-- where t is asked of a kind and found, the cell that it owns starts as its kind alone says
pub own-start : (inputs wires : List ℕ) (t n b k : ℕ) → k < kind_count → found_of inputs wires t k n ≡ t
    → start_bytes (own_forms k (type_of_byte t) b) ≡ cond (eqb (cells_of k) 0) [] (cell_bytes (own_cell k b))
unfolding memory_bytes
own-start inputs wires t n b k l e = ap memory_bytes (own-starts inputs wires t n b k l e) ∙ go (eqb (cells_of k) 0)
  where
    go : (none : Bool) → memory_bytes (cond none [] (own_cell k b ∷ [])) ≡ cond none [] (cell_bytes (own_cell k b))
    go true = refl
    go false = append-nil (cell_bytes (own_cell k b))

pub own-length : (s : List ℕ) (at : ℕ) → get_or s at 0 < kind_count → length (own_bytes s at) ≡ 5 * cells_of (get_or s at 0)
own-length s at l =
    every-kind (λ k. (c : Cell) → length (cond (eqb (cells_of k) 0) [] (cell_bytes c)) ≡ 5 * cells_of k)
    (none ▸ none ▸ none ▸ none ▸ none ▸ none ▸ none ▸ none ▸ none ▸ none ▸ none ▸ none ▸ none ▸ none ▸ none
    ▸ cell-length ▸ cell-length ▸ cell-length ▸ none ▸ cell-length ▸ end)
    (get_or s at 0) l (own_cell (get_or s at 0) (body_at s at))
  where
    none : Cell → ◌≡◌ {A = ℕ} 0 0
    none c = refl
