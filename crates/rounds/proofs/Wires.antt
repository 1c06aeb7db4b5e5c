-- A wire by the map: its expression, where its cells stand, and its value by the number of its first cell.
use Prim.Native.Nat.{ℕ, zero, suc, ◌+◌, ◌<◌}
use mathlib.Core.Path.{◌≡◌, refl, sym, ap, ◌∙◌}
use mathlib.Core.Bool.{Bool, true, false, cond}
use mathlib.Core.List.{List, [], ◌∷◌}
use native.Mathlib.Nat.{zero-add, add-zero}
use native.Mathlib.Numerals.{add-one}
use native.Mathlib.Omega.{arith}
use lib.Seq.{get_or-drop}
use lib.ListN.{length, get_or}
use Rattle.sheet.specs.Data.{ValueType, plain_byte, is_kept, wire_type, datum_of}
use Rattle.sheet.specs.Expressions.{Expression, kept, cell_forms, cell_count}
use Rattle.sheet.specs.Sheets.{forms_of, expression_at, cells_before, wire_tree, own_cells}
use Rattle.sheet.proofs.Laws.Memory.{word_back}
use Rattle.sheet.proofs.Laws.Typing.{type-of-named}
use Rattle.sheet.specs.Laws.Readings.{forms_length}
use Rattle.sheet.proofs.Laws.Wires.{all-extent}
use Rattle.sheet.specs.declared.Cell.{Cell}
use Rattle.kernel.specs.Values.{Fits, known-fits}
use Rattle.kernel.specs.Instant.{Environment, value}
use Rattle.kernel.specs.Instants.{value_of_wire, under}
use Rattle.kernel.proofs.Laws.Instants.{behind-first, value-of-wire}
use Rattle.kernel.proofs.Laws.Kept.{tree-value}
use Rattle.kernel.proofs.Laws.Typing.{OnWires}
use Rattle.kernel.specs.declared.Value.{Value}
use Rattle.kernel.specs.declared.Value.TheVariants.{Known}
use Rattle.expression.specs.Places.{value_of_word, Stands, CellsStand, more, Placement}
use Rattle.expression.proofs.Views.{cells-split}
use Rattle.sheet_walk.specs.declared.Place.{Place}
use Rattle.rounds.specs.Running.{Running, Held, unheld, held, Holds, mapped}

-- the cells of a wire stand where its first one has its number
pub cells-of-wire : {memory : List ℕ} {cells : List Cell} (es : List Expression) (k w : ℕ) → w < length es
    → CellsStand memory cells k (forms_of es) → CellsStand memory cells (k + cells_before es w) (cell_forms (expression_at es w))
unfolding forms_of
cells-of-wire [] k w l s = absurd (omega arith)
cells-of-wire (e ∷ es) k zero l s = rw add-zero (cells-split (cell_forms e) (forms_of es) s).0
cells-of-wire (e ∷ es) k (suc w) l s =
    rw (behind-first e es k w)
    (cells-of-wire es (k + cell_count e) w (omega arith) (rw (forms_length e) at (cells-split (cell_forms e) (forms_of es) s).1))

-- and those of its expression behind the wire's own
pub cells-within : {memory : List ℕ} {cells : List Cell} {k : ℕ} (b : ℕ) (e : Expression) → CellsStand memory cells k (cell_forms (wire_tree b e))
    → CellsStand memory cells (k + own_cells b) (cell_forms e)
unfolding cell_forms
cells-within {memory} {cells} {k} b e = go (is_kept b)
  where
    go : (t : Bool) → CellsStand memory cells k (cell_forms (cond t (kept (wire_type b) e) e))
        → CellsStand memory cells (k + cond t 1 0) (cell_forms e)
    go true (more c s) = rw add-one s
    go false s = rw add-zero s

-- a value of its type is what the set and its word say
stands_for_lem : {b : Bool} {word : ℕ} {v : Value} {t : ValueType} → Held b word v → Fits t v → v ≡ value_of_word b t word
stands_for_lem unheld f = refl
stands_for_lem {t = t} (held {d = d} e) (known-fits i) = ap Known (sym (word_back t d i) ∙ ap (datum_of t) (sym e))

module _ {s memory row types places firsts : List ℕ} (r : Running s memory row types places firsts) where
  pub wires-counted : length r.given.sheet.expressions ≡ length types
  wires-counted = (all-extent r.inputs types s r.first r.run).sized

  abbrev pub environment_of : List Value → Environment
  environment_of = under r.given.sheet r.given.inputs r.given.memory

  -- the set and the words that hold typed values stand for them
  pub running_stands : {words : List ℕ} {bits : ℕ} {values : List Value} → Holds (length types) row bits words values
      → OnWires Fits r.given.sheet.wire_types values → Stands r.inputs types words bits (environment_of values)
  unfolding OnWires
  running_stands {words} h typed =
      record {
        input_limit = r.input_limit;
        on_inputs = λ i l. r.on_inputs i l ∙ rw (← h.fixed, get_or-drop);
        wire_limit = r.few;
        on_wires = λ w l.
            stands_for_lem (h.each w l) (typed w (wire_type (get_or types w 0)) (rw r.wire_types (type-of-named plain_byte types w l refl)));
        on_lasts = λ w l k. let place : 64 + (16 + w) ≡ 80 + w = omega arith in r.on_lasts w l k ∙ rw (← h.fixed, get_or-drop, place);
      }

  -- the cells of the expression of wire w; where the wire is kept, its own comes before them
  pub all-cells : (w : ℕ) → w < length types → let es = r.given.sheet.expressions in
      CellsStand memory r.given.memory (cells_before es w) (cell_forms (expression_at es w))
  all-cells w l =
      let es = r.given.sheet.expressions in
      rw (← (zero-add (cells_before es w))) (cells-of-wire es 0 w (omega (arith, wires-counted)) r.cells)

  pub wire-cells : (w : ℕ) (l : w < length types)
      → CellsStand memory r.given.memory (get_or firsts w 0) (cell_forms (r.starts w l).tree)
  wire-cells w l =
      let at = r.starts w l in
      rw at.first (cells-within (get_or types w 0) at.tree (rw at.whole at (all-cells w l)))

  -- where the expression of wire w stands, under values that a set and words hold
  abbrev pub wire-placed : {words : List ℕ} {bits : ℕ} {values : List Value} → Holds (length types) row bits words values
      → OnWires Fits r.given.sheet.wire_types values → (w : ℕ) → w < length types → {here : Place} → here ≡ mapped places firsts w
      → Placement s memory words bits 16 (plain_byte (get_or types w 0)) here.at here.cell
  wire-placed {values = values} h typed w l is =
      let at = r.starts w l in
      record {
        inputs = r.inputs;
        wires = types;
        now = environment_of values;
        tree = at.tree;
        next = at.next;
        count = at.count;
        reads = rw is at.reads;
        stands = running_stands h typed;
        cells = rw is (wire-cells w l);
      }

  -- its value is that of the wire
  pub wire-valued : (values : List Value) (w : ℕ) (l : w < length types) → {here : Place} → here ≡ mapped places firsts w
      → value (environment_of values) false (r.starts w l).tree here.cell
      ≡ value_of_wire (environment_of values) r.given.sheet.expressions 0 w
  wire-valued values w l is =
      let es = r.given.sheet.expressions in
      let at = r.starts w l in
      let now = environment_of values in
      rw (is, at.first)
      (sym (tree-value now false (get_or types w 0) at.tree (cells_before es w))
      ∙ rw (← at.whole, ← (zero-add (cells_before es w))) (sym (value-of-wire now es 0 w (omega (arith, wires-counted)))))
