-- A cell's test by its form's byte, an entry's by its type byte, and which cells and entries do not pass.
use Prim.Native.Nat.{ℕ, zero, suc, ◌+◌, ◌*◌, ◌%◌, ◌<◌}
use mathlib.Core.Path.{◌≡◌, refl, sym, ◌∙◌}
use mathlib.Core.Bool.{Bool, not, ◌&&◌, cond}
use mathlib.Core.List.{List, [], ◌∷◌, map}
use native.Mathlib.Omega.{arith}
use lib.Dec.{eqb, leb}
use lib.ListN.{length, get_or}
use borrow.Author.Tests.{eq-eqb, ne_eqb}
use Rattle.numbers.specs.Words.{word_at}
use Rattle.sheet.specs.Data.{ValueType, boolean, number, type_of_byte, stands_for}
use Rattle.sheet.specs.Expressions.{CellForm, fby_cell}
use Rattle.sheet.specs.Memory.{starts_empty, type_byte, form_byte, valid_cell, invalid_at}
use Rattle.sheet.specs.Rows.{wrong_at}
use Rattle.sheet_expressions.specs.Map.{form_in}
use Rattle.buffers.specs.Tests.{Formed}
use Rattle.sheet.specs.declared.Cell.{Cell}
use Rattle.sheet.specs.declared.Cell.TheVariants.{NotStarted, Started}

-- what a form's byte tells
empty-byte : (f : CellForm) → leb 2 (form_byte f) ≡ starts_empty f.start
empty-byte f = go f.type f.start
  where
    go : (t : ValueType) (c : Cell) → leb 2 (type_byte t + cond (starts_empty c) 2 0) ≡ starts_empty c
    go boolean NotStarted = refl
    go boolean (Started d) = refl
    go number NotStarted = refl
    go number (Started d) = refl

type-byte : (f : CellForm) → type_of_byte (form_byte f % 2) ≡ f.type
type-byte f = go f.type f.start
  where
    go : (t : ValueType) (c : Cell) → type_of_byte ((type_byte t + cond (starts_empty c) 2 0) % 2) ≡ t
    go boolean NotStarted = refl
    go boolean (Started d) = refl
    go number NotStarted = refl
    go number (Started d) = refl

module _ (f : CellForm) (form mark word : ℕ) (e : form_byte f ≡ form) where
  pub not-started : mark ≡ 0 → valid_cell f mark word ≡ (leb 2 form && eqb word 0)
  not-started none = rw (eq-eqb mark 0 none, ← e, empty-byte f)

  pub started : (mark ≡ 0 → ⊥) → valid_cell f mark word ≡ (eqb mark 1 && stands_for (type_of_byte (form % 2)) word)
  started some = rw (ne_eqb mark 0 some, ← e, type-byte f)

map_at : {A B : Type 0} (f : A → B) (l : List A) (i : ℕ) (d : A) (e : B) → i < length l → get_or (map f l) i e ≡ f (get_or l i d)
map_at f [] i d e l = absurd (omega arith)
map_at f (a ∷ rest) zero d e l = refl
map_at f (a ∷ rest) (suc i) d e l = map_at f rest i d e (omega arith)

-- the tests of a cell and of an entry, as the code makes them
pub cell-test : (fs : List CellForm) (forms memory : List ℕ) (cells k : ℕ) {word form : ℕ} {r : Bool} → k < cells
    → Formed fs forms cells → form ≡ form_in (get_or forms k 0) → word ≡ word_at memory (5 * k + 1)
    → ((f : CellForm) → form_byte f ≡ form → r ≡ valid_cell f (get_or memory (5 * k) 0) word) → invalid_at fs memory k ≡ not r
unfolding invalid_at
cell-test fs forms memory cells k l e same w h = rw (h (get_or fs k (fby_cell boolean)) (e.each k l ∙ sym same), w)

pub entry-test : (types input : List ℕ) (i : ℕ) {word : ℕ} {r : Bool} → i < length types → word ≡ word_at input (4 * i)
    → r ≡ stands_for (type_of_byte (get_or types i 0)) word → wrong_at (map type_of_byte types) input i ≡ not r
unfolding wrong_at
entry-test types input i l w h = rw (map_at type_of_byte types i 0 number l, h, w)
