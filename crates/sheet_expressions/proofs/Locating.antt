-- The wires' expressions one behind the other: where the next one starts, and that those that are left read behind it.
use Prim.Native.Nat.{ℕ, suc, ◌+◌, ◌-◌, ◌<◌}
use mathlib.Core.Path.{◌≡◌, sym, ap, ◌∙◌}
use mathlib.Core.Bool.{false}
use mathlib.Core.List.{List, [], ◌∷◌, ◌++◌}
use native.Mathlib.Numerals.{add-one}
use native.Mathlib.Omega.{arith}
use lib.ListN.{length, get_or, take, drop, length-append}
use lib.Seq.{drop-cons, take-suc}
use Rattle.sheet.specs.Data.{plain_byte}
use Rattle.sheet.specs.Expressions.{Expression, constant, cell_forms, cell_count}
use Rattle.sheet.specs.Readings.{got, read_each, read_expression}
use Rattle.sheet.specs.Sheets.{forms_of, expression_at, cells_before, wire_tree, own_cells, kept_count, read_wire, read_wires}
use Rattle.sheet.specs.Laws.Readings.{run-view, expression_extent, forms_length}
use Rattle.sheet.proofs.Laws.Wires.{wire-view, tree-count, all-extent, expression_sooner}
use Rattle.sheet.specs.declared.Datum.TheVariants.{Boolean}
use Rattle.sheet_names.proofs.Numbers.{kept_from}
use Rattle.sheet_expressions.specs.Map.{WiresRead, StartsAt}

-- an expression more brings its own cells
forms_append : (es : List Expression) (e : Expression) → length (forms_of (es ++ (e ∷ []))) ≡ length (forms_of es) + cell_count e
unfolding forms_of
forms_append [] e = omega (arith, length-append (cell_forms e) [], forms_length e)
forms_append (a ∷ es) e =
    omega (arith, forms_append es e, length-append (cell_forms a) (forms_of (es ++ (e ∷ []))), length-append (cell_forms a) (forms_of es))

module _ {s : List ℕ} {wires at : ℕ} (run : WiresRead s wires at) where
  -- from wire w on the expressions read, the first at `next` behind the cells of the wires before and those of the kept wires ahead
  pub record Left (w next count : ℕ) : Type 0 where
    pub reads : read_each (read_wire run.inputs run.types s) (drop w run.types) next count
        ≡ got (drop w run.trees) run.next run.count
    pub counted : count ≡ kept_count (drop w run.types) + cells_before run.trees w

  pub all_left : {count : ℕ} → count ≡ kept_count run.types → Left 0 at count
  unfolding forms_of read_wires
  all_left e = record { reads = rw e run.reads; counted = omega arith }

  pub each-tree : {w : ℕ} → w < wires → w < length run.trees
  each-tree l = omega (arith, run.sized, (all-extent run.inputs run.types s at run.reads).sized)

  -- one wire more: how it reads, where it starts, and what is left behind it
  pub record Turn (w next count : ℕ) : Type 0 where
    pub tree : Expression
    pub end : ℕ
    pub behind : ℕ
    pub reads : read_expression run.inputs run.types s 16 (plain_byte (get_or run.types w 0)) next count ≡ got tree end behind
    pub whole : expression_at run.trees w ≡ wire_tree (get_or run.types w 0) tree
    pub starts : StartsAt run w next (count - kept_count (drop (w + 1) run.types))
    pub rest : Left (w + 1) end behind

  pub turn : {w next count : ℕ} → Left w next count → w < wires → Turn w next count
  turn {w} {next} {count} left more =
      let b = get_or run.types w 0 in
      let typed : w < length run.types = omega (arith, run.sized) in
      let grown = each-tree more in
      let v = run-view (read_wire run.inputs run.types s) b (drop (suc w) run.types) next count
      (rw (drop-cons run.types w 0 typed) at left.reads) in
      let trees = drop-cons run.trees w (constant (Boolean false)) grown in
      let head : v.head ≡ expression_at run.trees w = cc in
      let tail : v.tail ≡ drop (suc w) run.trees = cc in
      let wire = wire-view run.inputs run.types s b next count v.first in
      let extent = expression_extent run.inputs run.types s 16 (plain_byte b) next count wire.reads in
      let own : cell_count (expression_at run.trees w) ≡ own_cells b + cell_count wire.tree =
      ap cell_count (sym head ∙ wire.whole) ∙ tree-count b wire.tree in
      let forms : cells_before run.trees (w + 1) ≡ cells_before run.trees w + cell_count (expression_at run.trees w) =
      rw (add-one, take-suc run.trees w (constant (Boolean false)) grown)
      (forms_append (take w run.trees) (expression_at run.trees w)) in
      let kept = kept_from run.types w typed in
      record {
        tree = wire.tree;
        end = v.next;
        behind = v.count;
        reads = wire.reads;
        whole = sym head ∙ wire.whole;
        starts = record {
          tree = wire.tree;
          next = v.next;
          count = count - kept_count (drop (w + 1) run.types) + cell_count wire.tree;
          reads = expression_sooner run.inputs run.types s 16 (plain_byte b) next (count - kept_count (drop (w + 1) run.types)) count
              (omega arith) wire.reads;
          whole = sym head ∙ wire.whole;
          first = omega (arith, left.counted);
        };
        rest = record { reads = rw (add-one, ← tail) v.rest; counted = omega (arith, extent.counted, left.counted) };
      }
