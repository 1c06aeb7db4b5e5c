-- Where the cells of the kept wires stand in the memory, and what their words are.
use Prim.Native.Nat.{ℕ, ◌+◌, ◌-◌, ◌<◌}
use mathlib.Core.Path.{◌≡◌, ap, ◌∙◌}
use mathlib.Core.Bool.{Bool, true, false, cond}
use mathlib.Core.List.{List}
use native.Mathlib.Nat.{zero-add}
use native.Mathlib.Omega.{arith}
use lib.Dec.{eqb}
use lib.ListN.{length, get_or}
use lib.Seq.{get_or-drop}
use Rattle.sheet.specs.Data.{ValueType, is_kept, wire_type, datum_of}
use Rattle.sheet.specs.Expressions.{Expression, kept, kept_cell, cell_forms}
use Rattle.sheet.specs.Readings.{got}
use Rattle.sheet.specs.Memory.{mark_at, cell_word_at, read_cell}
use Rattle.sheet.specs.Sheets.{Sheet, sheet_forms, expression_at, cells_before, own_cells, read_wires}
use Rattle.sheet.specs.Typing.{WellTyped, ValidMemory}
use Rattle.sheet.specs.Laws.Lists.{never}
use Rattle.sheet.proofs.Laws.Wires.{all-extent}
use Rattle.sheet.specs.declared.Datum.{Datum}
use Rattle.sheet.specs.declared.Cell.{Cell}
use Rattle.sheet.specs.declared.Cell.TheVariants.{NotStarted, Started}
use Rattle.sheet_expressions.specs.Map.{StartsAt, run_of}
use Rattle.kernel.specs.Instant.{last_at, cell_at}
use Rattle.kernel.specs.Instants.{lasts_of}
use Rattle.kernel.proofs.Laws.Typing.{valid-from-start}
use Rattle.kernel.proofs.Laws.Lasts.{kept-held}
use Rattle.leaves.specs.Words.{fixed_words, KeptCells, LastsPut}
use Rattle.expression.specs.Places.{CellStands, CellsStand}
use Rattle.expression.proofs.Views.{first-stands}
use Rattle.rounds.proofs.Wires.{cells-of-wire}

-- what is read of a started cell is what its word stands for
word_held : (t : ValueType) (memory : List ℕ) (k : ℕ) {d : Datum} → read_cell t memory k ≡ Started d → d ≡ datum_of t (cell_word_at memory k)
word_held t memory k {d} = go (eqb (mark_at memory k) 0)
  where
    go : (b : Bool) → cond b NotStarted (Started (datum_of t (cell_word_at memory k))) ≡ Started d → d ≡ datum_of t (cell_word_at memory k)
    go true e = never (cc)
    go false e = cc

module _ {s memory inputs types : List ℕ} (places firsts : List ℕ) {first next count : ℕ} (sheet : Sheet) (cells : List Cell)
    (run : read_wires inputs types s first ≡ got sheet.expressions next count)
    (starts : (w : ℕ) → w < length types
    → StartsAt (run_of inputs types s first sheet.expressions next count run) w (get_or places w 0) (get_or firsts w 0))
    (stand : CellsStand memory cells 0 (sheet_forms sheet)) where
  abbrev es : List Expression
  es = sheet.expressions

  inside : (w : ℕ) → w < length types → w < length es
  inside w l = omega (arith, (all-extent inputs types s first run).sized)

  -- a kept wire's expression, the number of the first one's cell, and the wire's own cell before it
  module _ (w : ℕ) (l : w < length types) (k : is_kept (get_or types w 0) ≡ true) where
    tree_is : expression_at es w ≡ kept (wire_type (get_or types w 0)) (starts w l).tree
    tree_is = (starts w l).whole ∙ rw k

    behind : get_or firsts w 0 ≡ cells_before es w + 1
    behind = let one : own_cells (get_or types w 0) ≡ 1 = rw k in omega (arith, (starts w l).first, one)

    own : CellStands memory (cells_before es w) (kept_cell (wire_type (get_or types w 0))) (cell_at cells (cells_before es w))
    unfolding cell_forms
    own = first-stands (rw (zero-add, tree_is) at (cells-of-wire es 0 w (inside w l) stand))

  pub kept-cells : KeptCells types firsts memory
  unfolding KeptCells
  kept-cells w l k = record { some = omega (arith, behind w l k); fits = omega (arith, behind w l k, (own w l k).fits) }

  pub last-words : WellTyped sheet → ValidMemory sheet cells → (words : List ℕ) → LastsPut types firsts memory words
      → (w : ℕ) → w < length types → is_kept (get_or types w 0) ≡ true
      → last_at (lasts_of sheet cells) w ≡ datum_of (wire_type (get_or types w 0)) (get_or (fixed_words words) (16 + w) 0)
  unfolding LastsPut
  last-words typed valid words put w l k =
      let t = wire_type (get_or types w 0) in
      let cell = cells_before es w in
      let held = kept-held sheet.input_types sheet.wire_types cells 0 w typed (valid-from-start valid) (inside w l) (tree_is w l k) in
      let started = rw zero-add at held.started in
      let word = word_held t memory cell ((own w l k).reads ∙ started) in
      let number : get_or firsts w 0 - 1 ≡ cell = omega (arith, behind w l k) in
      let place : 64 + (16 + w) ≡ 80 + w = omega arith in
      held.gives ∙ word ∙ ap (datum_of t) (rw (get_or-drop, place, put w l k, number))
