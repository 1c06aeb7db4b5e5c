-- The starting bytes of cells: how many they are, and how the cells put one after the other make them.
use Prim.Native.Nat.{ℕ, zero, suc, ◌+◌, ◌*◌, ◌≤◌, ◌<◌}
use mathlib.Core.Path.{◌≡◌, sym, ◌∙◌}
use mathlib.Core.List.{List, [], ◌++◌}
use native.Mathlib.Numerals.{add-one}
use native.Mathlib.Omega.{arith}
use lib.ListN.{length, get_or, drop, length-map, drop_of_length-le}
use lib.Seq.{sets, drop-cons, get_or-take}
use Rattle.numbers.specs.Laws.{sets-append}
use Rattle.sheet.specs.Data.{boolean}
use Rattle.sheet.specs.Expressions.{CellForm, fby_cell}
use Rattle.sheet.specs.Memory.{cell_bytes, memory_bytes, start_memory}
use Rattle.sheet.specs.Typing.{Pairwise, done, ◌then◌}
use Rattle.sheet.proofs.Laws.Memory.{cell-length, memory_length}
use Rattle.sheet.specs.declared.Cell.{Cell}
use Rattle.sheet_expressions.specs.Map.{start_in, CellNoted}
use Rattle.sheet_cells.proofs.Starting.{start_bytes}
use Rattle.sheet_start.specs.Owners.{Noted}

pub start-length : (forms : List CellForm) → length (start_bytes forms) ≡ 5 * length forms
unfolding start_memory
start-length forms = simp (memory_length, length-map)

pairwise-at : {A B : Type 0} {R : A → B → Type 0} {xs : List A} {ys : List B} → Pairwise R xs ys → (k : ℕ) (x : A) (y : B)
    → k < length xs → R (get_or xs k x) (get_or ys k y)
pairwise-at done k x y l = absurd (omega arith)
pairwise-at (r then rs) zero x y l = r
pairwise-at (r then rs) (suc k) x y l = pairwise-at rs k x y (omega arith)

-- the cells of a list that notes them, one by one
module _ {s entries : List ℕ} {count : ℕ} (p : Noted s entries count) where
  -- the form of cell k
  abbrev pub form_at : ℕ → CellForm
  form_at k = get_or p.forms k (fby_cell boolean)

  pub noted-at : (k : ℕ) → k < count → CellNoted s (form_at k) (get_or entries k 0)
  noted-at k l = rw get_or-take at (pairwise-at p.noted k (fby_cell boolean) 0 (omega (arith, p.counted)))

  -- with the cells before k put, the starting bytes of the others make the whole
  abbrev pub Makes : ℕ → List ℕ → Type 0
  Makes k memory = sets memory (5 * k) (start_bytes (drop k p.forms)) ≡ start_bytes p.forms

  pub next-put : (k : ℕ) (memory after : List ℕ) (cell : Cell) → k < count
      → cell ≡ start_in s (get_or entries k 0) → after ≡ sets memory (5 * k) (cell_bytes cell) → Makes k memory → Makes (k + 1) after
  unfolding memory_bytes start_memory
  next-put k memory after cell l own put makes =
      let here : k < length p.forms = omega (arith, p.counted) in
      let start : cell ≡ (form_at k).start = own ∙ (noted-at k l).starts in
      let bytes : start_bytes (drop k p.forms) ≡ cell_bytes cell ++ start_bytes (drop (k + 1) p.forms) =
      rw (add-one, drop-cons p.forms k (fby_cell boolean) here, start) in
      let place : 5 * (k + 1) ≡ 5 * k + length (cell_bytes cell) = omega (arith, cell-length cell) in
      rw (place, put) (sym (sets-append (cell_bytes cell) (start_bytes (drop (k + 1) p.forms)) memory (5 * k)) ∙ rw (← bytes) makes)

  pub all-put : (k : ℕ) (memory : List ℕ) → count ≤ k → Makes k memory → memory ≡ start_bytes p.forms
  unfolding memory_bytes start_memory
  all-put k memory l makes =
      let none : drop k p.forms ≡ [] = drop_of_length-le p.forms {i = k} (omega (arith, p.counted)) in
      rw none at makes
