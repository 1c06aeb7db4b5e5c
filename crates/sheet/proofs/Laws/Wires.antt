-- The laws of the wires of a sheet that reads: how a wire's expression reads, how many cells its wires own, and that an expression reads
-- behind fewer cells as behind more. The last is needed since a cell's number goes by the order of the wires, but the count that limits
-- the cells begins with all those of kept wires.
use Prim.Native.Nat.{ℕ, zero, suc, ◌+◌, ◌≤◌, ◌<◌}
use Rattle.std.specs.Prelude.{◌≡◌, Bool, true, cond, leb, ltb, eqb}
use Rattle.std.proofs.Math.Path.{refl, ap}
use Rattle.std.proofs.Common.{sym, ap₂, ◌∙◌, length-append}
use Rattle.std.proofs.Math.Bool.{false}
use mathlib.Core.List.{List, [], ◌∷◌}
use native.Mathlib.Omega.{arith}
use Rattle.std.proofs.Math.ListN.{length, get_or}
use borrow.Author.Tests.{ltb-false, le-ltb}
use Rattle.sheet.specs.Data.{ValueType, plain_byte, is_kept, wire_type, type_of_byte}
use Rattle.sheet.specs.Expressions.{Expression, kept, is_kept_wire, cell_count}
use Rattle.sheet.specs.Kinds.{body_of, cells_of, operands_of, limit_of, names_unkept, found_of, meaning_of, kind_count}
use Rattle.sheet.specs.Readings.{Reading, got, read_each, named_at, body_at, names_of, body_from, own_of, read_expression}
use Rattle.sheet.specs.Sheets.{forms_of, expression_at, wire_tree, own_cells, kept_count, read_wire, read_wires}
use Rattle.sheet.specs.Laws.Readings.{got-next, passed, granted, and_then-got, run-view, no-level, expression_view, expression_extent}
use Rattle.sheet.specs.Laws.Readings.{every-kind, ◌▸◌, end, ExpressionExtent, run-extent, forms_length}
use Rattle.sheet.specs.Readings.{got_at}

-- a wire with this type byte that reads as e
pub record WireRead (inputs wires s : List ℕ) (b at c : ℕ) (e : Expression) (n k : ℕ) : Type 0 where
  pub tree : Expression
  pub reads : read_expression inputs wires s 16 (plain_byte b) at c ≡ got tree n k
  pub whole : e ≡ wire_tree b tree

pub tree-count : (b : ℕ) (e : Expression) → cell_count (wire_tree b e) ≡ own_cells b + cell_count e
unfolding cell_count
tree-count b e = go (is_kept b)
  where
    go : (t : Bool) → cell_count (cond t (kept (wire_type b) e) e) ≡ cond t 1 0 + cell_count e
    go true = omega arith
    go false = omega arith

pub kept-few : (bs : List ℕ) → kept_count bs ≤ length bs
unfolding kept_count
kept-few [] = omega arith
kept-few (b ∷ bs) = go (is_kept b) (kept-few bs)
  where
    go : (t : Bool) → kept_count bs ≤ length bs → cond t 1 0 + kept_count bs ≤ suc (length bs)
    go true l = omega arith
    go false l = omega arith

-- the wires of these types from `at` on, behind c cells that were counted
pub record WiresExtent (s ts : List ℕ) (at c : ℕ) (es : List Expression) (n k : ℕ) : Type 0 where
  pub sized : length es ≡ length ts
  pub forward : at ≤ n
  pub within : at ≤ length s → n ≤ length s
  pub counted : k + kept_count ts ≡ c + length (forms_of es)
  pub limited : c ≤ 64 → k ≤ 64

-- a run of expressions behind fewer cells, where each of them reads so
module _ {s : List ℕ} (read : ℕ → ℕ → ℕ → Reading Expression)
    (extent : (t at c : ℕ) (e : Expression) (n k : ℕ) → read t at c ≡ got e n k → ExpressionExtent s at c e n k)
    (sooner : (t at c d : ℕ) (e : Expression) (n k : ℕ) → c ≤ d → read t at d ≡ got e n k → read t at c ≡ got e n (c + cell_count e)) where
  run_sooner : (ts : List ℕ) (at c d : ℕ) {es : List Expression} {n k : ℕ} → c ≤ d → read_each read ts at d ≡ got es n k
      → read_each read ts at c ≡ got es n (c + length (forms_of es))
  unfolding read_each forms_of
  run_sooner [] at c d {es} {n} l r =
      let trees : es ≡ [] = cc in
      let next : n ≡ at = cc in
      let none : c + 0 ≡ c = omega arith in
      rw (trees, next, none)
  run_sooner (t ∷ ts) at c d {es} {n} l r =
      let v = run-view read t ts at d r in
      let head = sooner t at c d v.head v.next v.count l v.first in
      let behind = extent t at d v.head v.next v.count v.first in
      let rest = run_sooner ts v.next (c + cell_count v.head) v.count (omega (arith, behind.counted)) v.rest in
      let forms : length (forms_of es) ≡ cell_count v.head + length (forms_of v.tail) =
      ap (λ x. length (forms_of x)) v.trees ∙ simp (length-append, forms_length) in
      let count : c + length (forms_of es) ≡ c + cell_count v.head + length (forms_of v.tail) = omega arith in
      rw (head, rest) (ap₂ (λ x y. got x n y) (sym v.trees) (sym count))

module _ (inputs wires s : List ℕ) where
  pub wire-view : (b at c : ℕ) {e : Expression} {n k : ℕ} → read_wire inputs wires s b at c ≡ got e n k
      → WireRead inputs wires s b at c e n k
  wire-view b at c r =
      let (tree, m, j, reads, same) = and_then-got (read_expression inputs wires s 16 (plain_byte b) at c) _ r in
      record { tree = tree; reads = cc; whole = cc }

  pub wires-extent : (ts : List ℕ) (at c : ℕ) {es : List Expression} {n k : ℕ}
      → read_each (read_wire inputs wires s) ts at c ≡ got es n k → WiresExtent s ts at c es n k
  unfolding read_each forms_of kept_count
  wires-extent [] at c {es} {n} {k} e =
      let trees : es ≡ [] = cc in
      let next : n ≡ at = cc in
      let count : k ≡ c = cc in
      let none : length (forms_of es) ≡ 0 = rw trees in
      record {
        sized = ap length trees;
        forward = omega arith;
        within = λ h. omega arith;
        counted = omega arith;
        limited = λ h. omega arith;
      }
  wires-extent (b ∷ bs) at c {es} {n} {k} e =
      let v = run-view (read_wire inputs wires s) b bs at c e in
      let w = wire-view b at c v.first in
      let first = expression_extent inputs wires s 16 (plain_byte b) at c w.reads in
      let rest = wires-extent bs v.next v.count v.rest in
      let forms : length (forms_of es) ≡ cell_count v.head + length (forms_of v.tail) =
      ap (λ x. length (forms_of x)) v.trees ∙ simp (length-append, forms_length) in
      let head : cell_count v.head ≡ own_cells b + cell_count w.tree = ap cell_count w.whole ∙ tree-count b w.tree in
      record {
        sized = ap length v.trees ∙ ap suc rest.sized;
        forward = omega (arith, first.forward, rest.forward);
        within = λ h. rest.within first.within;
        counted = omega (arith, first.counted, rest.counted);
        limited = λ h. rest.limited first.limited;
      }

  -- all wires of a sheet
  pub all-extent : (at : ℕ) {es : List Expression} {n k : ℕ} → read_wires inputs wires s at ≡ got es n k
      → WiresExtent s wires at (kept_count wires) es n k
  unfolding read_wires
  all-extent at r = wires-extent wires at (kept_count wires) r

  -- a wire is kept as its type byte says
  plain-tree : (level t at c : ℕ) {e : Expression} {n k : ℕ} → read_expression inputs wires s level t at c ≡ got e n k → is_kept_wire e ≡ false
  unfolding meaning_of
  plain-tree zero t at c r = absurd (no-level inputs wires s t at c r)
  plain-tree (suc l) t at c r =
      let v = expression_view inputs wires s l t at c r in
      ap is_kept_wire v.tree
      ∙ every-kind (λ k. (u : ValueType) (b : ℕ) (os : List Expression) → is_kept_wire (meaning_of k u b os) ≡ false)
      (none ▸ none ▸ none ▸ none ▸ none ▸ none ▸ none ▸ none ▸ none ▸ none
      ▸ none ▸ none ▸ none ▸ none ▸ none ▸ none ▸ none ▸ none ▸ none ▸ none ▸ end)
      (get_or s at 0) v.good.kind (type_of_byte t) (body_at s at) v.operands
    where
      none : ValueType → ℕ → List Expression → false ≡ false
      none u b os = refl

  wire-kept : (b at c : ℕ) {e : Expression} {n k : ℕ} → read_wire inputs wires s b at c ≡ got e n k → is_kept_wire e ≡ is_kept b
  wire-kept b at c r =
      let v = wire-view b at c r in
      ap is_kept_wire v.whole ∙ go v.tree (plain-tree 16 (plain_byte b) at c v.reads) (is_kept b)
    where
      go : (e : Expression) → is_kept_wire e ≡ false → (t : Bool) → is_kept_wire (cond t (kept (wire_type b) e) e) ≡ t
      go e plain true = refl
      go e plain false = plain

  pub wires-kept : (ts : List ℕ) (at c : ℕ) {es : List Expression} {n k : ℕ} → read_each (read_wire inputs wires s) ts at c ≡ got es n k
      → (w : ℕ) → w < length ts → is_kept_wire (expression_at es w) ≡ is_kept (get_or ts w 0)
  wires-kept [] at c r w l = absurd (omega arith)
  wires-kept (b ∷ bs) at c r zero l =
      let v = run-view (read_wire inputs wires s) b bs at c r in
      ap (λ x. is_kept_wire (expression_at x 0)) v.trees ∙ wire-kept b at c v.first
  wires-kept (b ∷ bs) at c r (suc w) l =
      let v = run-view (read_wire inputs wires s) b bs at c r in
      ap (λ x. is_kept_wire (expression_at x (suc w))) v.trees ∙ wires-kept bs v.next v.count v.rest w (omega arith)

  -- own bytes behind fewer cells
  own_sooner : (level t at c d : ℕ) {n k : ℕ} → c ≤ d → own_of inputs wires s level t at d ≡ got_at n k
      → own_of inputs wires s level t at c ≡ got_at n (c + cells_of (get_or s at 0))
  unfolding own_of body_from names_of
  own_sooner level t at c d {n} {k} l e =
      let kind = get_or s at 0 in
      let has-byte = passed (leb (length s) at) _ _ _ e in
      let has-kind = passed (leb kind_count kind) _ _ _ has-byte.1 in
      let has-level = passed (eqb level 0) _ _ _ has-kind.1 in
      let has-cell = passed (ltb 64 (d + cells_of kind)) _ _ _ has-level.1 in
      let has_body = passed (ltb (length s) (at + 1 + body_of kind)) _ _ _ has-cell.1 in
      let has-name = passed (leb (limit_of inputs wires kind) (named_at s at)) _ _ _ has_body.1 in
      let Has-kept = passed (names_unkept wires kind (named_at s at)) _ _ _ has-name.1 in
      let has-type = granted (eqb (found_of inputs wires t kind (named_at s at)) t) _ _ _ Has-kept.1 in
      let room : c + cells_of kind ≤ 64 = omega (arith, ltb-false 64 (d + cells_of kind) has-cell.0) in
      let next : n ≡ at + 1 + body_of kind = got-next has-type.1 in
      rw (has-byte.0, has-kind.0, has-level.0, le-ltb 64 (c + cells_of kind) room, has_body.0, has-name.0, Has-kept.0, has-type.0, next)

  pub expression_sooner : (level t at c d : ℕ) {e : Expression} {n k : ℕ} → c ≤ d
      → read_expression inputs wires s level t at d ≡ got e n k → read_expression inputs wires s level t at c ≡ got e n (c + cell_count e)
  unfolding read_expression
  expression_sooner zero t at c d l r = absurd (no-level inputs wires s t at d r)
  expression_sooner (suc level) t at c d {e} {n} l r =
      let read = read_expression inputs wires s level in
      let v = expression_view inputs wires s level t at d r in
      let kind = get_or s at 0 in
      let own = own_sooner (suc level) t at c d l v.own in
      let each =
      run_sooner read (λ u a b f m j. expression_extent inputs wires s level u a b) (λ u a b f m j i. expression_sooner level u a b f)
      (operands_of kind t) v.first (c + cells_of kind) v.before (omega (arith, v.good.count)) v.each in
      let behind = expression_extent inputs wires s (suc level) t at d r in
      let run = run-extent inputs wires s level (operands_of kind t) v.first v.before v.each in
      let count : c + cells_of kind + length (forms_of v.operands) ≡ c + cell_count e =
      omega (arith, behind.counted, run.counted, v.good.count) in
      rw (own, each) (ap₂ (λ x y. got x n y) (sym v.tree) count)
