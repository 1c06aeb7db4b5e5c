-- Views of a placement: its own bytes and cells, the placements of its operands and its tree; first by the number of operands,
-- then by the kind.
use Prim.Native.Nat.{ℕ, zero, suc, ◌+◌, ◌-◌, ◌≤◌, ◌<◌}
use mathlib.Core.Path.{◌≡◌, refl, ap, ◌∙◌}
use mathlib.Core.Bool.{Bool, true, false}
use mathlib.Core.List.{List, [], ◌∷◌, ◌++◌}
use Rattle.std.proofs.Common.{◌⊎◌, inl, inr}
use native.Mathlib.Numerals.{sub-one}
use native.Mathlib.Omega.{arith}
use lib.ListN.{length, get_or, take}
use lib.Seq.{take_all}
use lib.Dec.{ltb}
use borrow.Author.Tests.{ltb-true, ltb-false, not-false}
use Rattle.sheet.specs.Data.{type_of_byte, plain_byte, is_kept, datum_of}
use Rattle.sheet.specs.Expressions.{Expression, constant, wire, input, last, unary, binary, conditional, pre, fby, present_of, reset_of, machine_of}
use Rattle.sheet.specs.Expressions.{CellForm, state_cell, cell_forms, cell_count}
use Rattle.sheet.specs.Kinds.{body_of, cells_of, count_of, own_forms, operands_of, meaning_of}
use Rattle.sheet.specs.KindBytes.{byte_of}
use Rattle.sheet.specs.declared.kinds.Kind.{Kind}
use Rattle.sheet.specs.declared.kinds.Kind.TheVariants.{BooleanConstant, NumberConstant, Wire, Input}
use Rattle.sheet.specs.Readings.{got, read_each, read_expression, body_at, Whole}
use Rattle.sheet.specs.Sheets.{forms_of}
use Rattle.sheet_walk.specs.Skips.{Readable}
use Rattle.sheet.specs.Laws.Readings.{OwnGood, ExpressionRead, expression_view, no-level, run-view, expression_extent, run-extent, own_forms_length}
use Rattle.sheet.specs.Laws.Readings.{forms_length, operands-counted, forms_of-kind}
use Rattle.sheet.specs.Memory.{read_cell}
use Rattle.sheet.specs.declared.Cell.{Cell}
use Rattle.kernel.specs.Instant.{cell_at}
use Rattle.kernel.specs.Operations.{unary_of, binary_of}
use Rattle.expression.proofs.Rows.{unary-row, binary-row, pre-row, constant-row, cell_row, no-type, one_type, two-types}
use Rattle.leaves.specs.Leaves.{Leaf, Last}
use Rattle.expression.specs.Places.{CellStands, CellsStand, none, more, Placement}

-- the cells of two runs of forms stand one run behind the other
pub cells-split : {memory : List ℕ} {cells : List Cell} {k : ℕ} (fs gs : List CellForm) → CellsStand memory cells k (fs ++ gs)
    → CellsStand memory cells k fs × CellsStand memory cells (k + length fs) gs
cells-split {k = k} [] gs s = let e : k + 0 ≡ k = omega arith in (none, rw e s)
cells-split {k = k} (f ∷ fs) gs (more c s) =
    let both = cells-split fs gs s in
    let e : k + suc (length fs) ≡ suc k + length fs = omega arith in
    (more c both.0, rw e both.1)

pub first-stands : {memory : List ℕ} {cells : List Cell} {k : ℕ} {f : CellForm} {fs : List CellForm} → CellsStand memory cells k (f ∷ fs)
    → CellStands memory k f (cell_at cells k)
first-stands (more c s) = c

-- the kinds of leaves are the first four
pub leaf-few : {kind : Kind} → (kind ≡ BooleanConstant) ⊎ (kind ≡ NumberConstant) ⊎ (kind ≡ Wire) ⊎ (kind ≡ Input) → byte_of kind < 4
leaf-few (inl is) = rw is (omega arith)
leaf-few (inr (inl is)) = rw is (omega arith)
leaf-few (inr (inr (inl is))) = rw is (omega arith)
leaf-few (inr (inr (inr is))) = rw is (omega arith)

-- an expression that reads has a level for itself
level-view : (inputs wires s : List ℕ) (level t at c : ℕ) {e : Expression} {n k : ℕ}
    → read_expression inputs wires s level t at c ≡ got e n k
    → (1 ≤ level) × ExpressionRead inputs wires s (level - 1) t at c e n k
level-view inputs wires s zero t at c r = absurd (no-level inputs wires s t at c r)
level-view inputs wires s (suc l) t at c r = (omega arith, rw sub-one (expression_view inputs wires s l t at c r))

module _ {sheet memory words : List ℕ} {bits level asked at cell : ℕ}
    (p : Placement sheet memory words bits level asked at cell) where
  abbrev kind : ℕ
  kind = get_or sheet at 0

  -- the tree, from the trees of the operands
  abbrev built : List Expression → Expression
  built = meaning_of kind (type_of_byte asked) (body_at sheet at)

  -- an operand, with type t asked: it reads a level below, and its cells stand from number k on
  pub record Operand (t a k : ℕ) : Type 0 where
    pub tree : Expression
    pub next : ℕ
    pub count : ℕ
    pub reads : read_expression p.inputs p.wires sheet (level - 1) t a k ≡ got tree next count
    pub cells : CellsStand memory p.now.memory k (cell_forms tree)

  -- as a placement of its own, in the same environment
  abbrev pub placed : {t a k : ℕ} → Operand t a k → Placement sheet memory words bits (level - 1) t a k
  placed o = record {
    inputs = p.inputs;
    wires = p.wires;
    now = p.now;
    tree = o.tree;
    next = o.next;
    count = o.count;
    reads = o.reads;
    stands = p.stands;
    cells = o.cells;
  }

  -- for the walk past it
  abbrev pub readable : {t a k : ℕ} → Operand t a k → Readable sheet a k
  readable {t} o = record {
    inputs = p.inputs;
    wires = p.wires;
    level = level - 1;
    asked = t;
    tree = o.tree;
    next = o.next;
    count = o.count;
    reads = o.reads;
  }

  -- what is left of the operands, one for each type
  pub record Run (ts : List ℕ) (a k : ℕ) (es : List Expression) : Type 0 where
    pub reads : read_each (read_expression p.inputs p.wires sheet (level - 1)) ts a k ≡ got es p.next p.count
    pub cells : CellsStand memory p.now.memory k (forms_of es)

  pub record Split (t : ℕ) (ts : List ℕ) (a k : ℕ) (es : List Expression) : Type 0 where
    pub first : Operand t a k
    pub tail : List Expression
    pub rest : Run ts first.next first.count tail
    pub trees : es ≡ first.tree ∷ tail

  pub split : (t : ℕ) (ts : List ℕ) (a k : ℕ) {es : List Expression} → Run (t ∷ ts) a k es → Split t ts a k es
  unfolding forms_of
  split t ts a k r =
      let read = read_expression p.inputs p.wires sheet (level - 1) in
      let v = run-view read t ts a k r.reads in
      let both = cells-split (cell_forms v.head) (forms_of v.tail) (rw v.trees at r.cells) in
      let counted : k + length (cell_forms v.head) ≡ v.count =
      omega (arith, forms_length v.head, (expression_extent p.inputs p.wires sheet (level - 1) t a k v.first).counted) in
      record {
        first = record { tree = v.head; next = v.next; count = v.count; reads = v.first; cells = both.0 };
        tail = v.tail;
        rest = record { reads = v.rest; cells = rw counted at both.1 };
        trees = v.trees;
      }

  pub record Done (a k : ℕ) (es : List Expression) : Type 0 where
    pub trees : es ≡ []
    pub next : p.next ≡ a
    pub count : p.count ≡ k

  pub done : (a k : ℕ) {es : List Expression} → Run [] a k es → Done a k es
  unfolding read_each
  done a k r =
      let e = r.reads in
      record { trees = cc e; next = cc e; count = cc e }

  -- its own bytes and cells, and its operands as a run
  pub record Opened : Type 0 where
    pub level-left : 1 ≤ level
    pub good : OwnGood p.inputs p.wires sheet (suc (level - 1)) asked at cell (at + 1 + body_of kind) (cell + cells_of kind)
    pub own : CellsStand memory p.now.memory cell (own_forms kind (type_of_byte asked) (body_at sheet at))
    pub operands : List Expression
    pub run : Run (operands_of kind asked) (at + 1 + body_of kind) (cell + cells_of kind) operands
    pub tree : p.tree ≡ built operands

  pub opened : Opened
  opened =
      let (left, v) = level-view p.inputs p.wires sheet level asked at cell p.reads in
      let g = v.good in
      let sized = (run-extent p.inputs p.wires sheet (level - 1) (operands_of kind asked) v.first v.before v.each).sized
      ∙ operands-counted asked kind g.kind in
      let forms = ap cell_forms v.tree ∙ forms_of-kind kind g.kind (type_of_byte asked) (body_at sheet at) v.operands sized in
      let both = cells-split (own_forms kind (type_of_byte asked) (body_at sheet at)) (forms_of v.operands) (rw forms at p.cells) in
      record {
        level-left = left;
        good = rw (g.next, g.count) at g;
        own = both.0;
        operands = v.operands;
        run = record { reads = rw (g.next, g.count) at v.each; cells = rw (own_forms_length _ _ kind g.kind) at both.1 };
        tree = v.tree;
      }

  pub whole : Whole sheet at
  whole = record { kind = opened.good.kind; ends = opened.good.ends }

  -- no operand, or one, two, three or four, from a place and a number of cells on; the tree is what f makes of theirs
  pub record Alone (a k : ℕ) (e : Expression) : Type 0 where
    pub tree : p.tree ≡ e
    pub next : p.next ≡ a
    pub count : p.count ≡ k

  pub record One (t a k : ℕ) (f : Expression → Expression) : Type 0 where
    pub first : Operand t a k
    pub ends : Alone first.next first.count (f first.tree)

  pub record Two (t u a k : ℕ) (f : Expression → Expression → Expression) : Type 0 where
    pub first : Operand t a k
    pub second : Operand u first.next first.count
    pub ends : Alone second.next second.count (f first.tree second.tree)

  pub record Three (t u v a k : ℕ) (f : Expression → Expression → Expression → Expression) : Type 0 where
    pub first : Operand t a k
    pub second : Operand u first.next first.count
    pub third : Operand v second.next second.count
    pub ends : Alone third.next third.count (f first.tree second.tree third.tree)

  pub record Four (t u v w a k : ℕ) (f : Expression → Expression → Expression → Expression → Expression) : Type 0 where
    pub first : Operand t a k
    pub second : Operand u first.next first.count
    pub third : Operand v second.next second.count
    pub fourth : Operand w third.next third.count
    pub ends : Alone fourth.next fourth.count (f first.tree second.tree third.tree fourth.tree)

  -- the operands have these types and begin at this place and number of cells
  record Begins (ts : List ℕ) (a k : ℕ) : Type 0 where
    types : operands_of kind asked ≡ ts
    place : at + 1 + body_of kind ≡ a
    cells : cell + cells_of kind ≡ k

  begun : {ts : List ℕ} {a k : ℕ} → Begins ts a k → Run ts a k opened.operands
  begun b = rw (b.types, b.place, b.cells) at opened.run

  retold : {a k : ℕ} {e e' : Expression} → Alone a k e → e ≡ e' → Alone a k e'
  retold v means = record { tree = v.tree ∙ means; next = v.next; count = v.count }

  -- a run of no operand, and of one, two, three or four
  run-of-none : {a k : ℕ} {es : List Expression} (f : List Expression → Expression) → p.tree ≡ f es → Run [] a k es → Alone a k (f [])
  run-of-none {a} {k} f e r =
      let d = done a k r in
      record { tree = e ∙ ap f d.trees; next = d.next; count = d.count }

  run-of-one : {t a k : ℕ} {es : List Expression} (f : List Expression → Expression) → p.tree ≡ f es → Run (t ∷ []) a k es
      → One t a k (λ x. f (x ∷ []))
  run-of-one {t} {a} {k} f e r =
      let s = split t [] a k r in
      record { first = s.first; ends = run-of-none (λ es. f (s.first.tree ∷ es)) (e ∙ ap f s.trees) s.rest }

  run-of-two : {t u a k : ℕ} {es : List Expression} (f : List Expression → Expression) → p.tree ≡ f es → Run (t ∷ u ∷ []) a k es
      → Two t u a k (λ x y. f (x ∷ y ∷ []))
  run-of-two {t} {u} {a} {k} f e r =
      let s = split t (u ∷ []) a k r in
      let rest = run-of-one (λ es. f (s.first.tree ∷ es)) (e ∙ ap f s.trees) s.rest in
      record { first = s.first; second = rest.first; ends = rest.ends }

  run-of-three : {t u v a k : ℕ} {es : List Expression} (f : List Expression → Expression) → p.tree ≡ f es
      → Run (t ∷ u ∷ v ∷ []) a k es
      → Three t u v a k (λ x y z. f (x ∷ y ∷ z ∷ []))
  run-of-three {t} {u} {v} {a} {k} f e r =
      let s = split t (u ∷ v ∷ []) a k r in
      let rest = run-of-two (λ es. f (s.first.tree ∷ es)) (e ∙ ap f s.trees) s.rest in
      record { first = s.first; second = rest.first; third = rest.second; ends = rest.ends }

  run-of-four : {t u v w a k : ℕ} {es : List Expression} (f : List Expression → Expression) → p.tree ≡ f es
      → Run (t ∷ u ∷ v ∷ w ∷ []) a k es
      → Four t u v w a k (λ x y z q. f (x ∷ y ∷ z ∷ q ∷ []))
  run-of-four {t} {u} {v} {w} {a} {k} f e r =
      let s = split t (u ∷ v ∷ w ∷ []) a k r in
      let rest = run-of-three (λ es. f (s.first.tree ∷ es)) (e ∙ ap f s.trees) s.rest in
      record { first = s.first; second = rest.first; third = rest.second; fourth = rest.third; ends = rest.ends }

  -- by the row of the kind: the types of its operands, where they begin, and what it builds of them
  alone : {a k : ℕ} {e : Expression} → Begins [] a k → built [] ≡ e → Alone a k e
  alone b means = retold (run-of-none built opened.tree (begun b)) means

  one : {t a k : ℕ} {f : Expression → Expression} → Begins (t ∷ []) a k → ((x : Expression) → built (x ∷ []) ≡ f x) → One t a k f
  one b means =
      let v = run-of-one built opened.tree (begun b) in
      record { first = v.first; ends = retold v.ends (means v.first.tree) }

  two : {t u a k : ℕ} {f : Expression → Expression → Expression} → Begins (t ∷ u ∷ []) a k
      → ((x y : Expression) → built (x ∷ y ∷ []) ≡ f x y) → Two t u a k f
  two b means =
      let v = run-of-two built opened.tree (begun b) in
      record { first = v.first; second = v.second; ends = retold v.ends (means v.first.tree v.second.tree) }

  three : {t u v a k : ℕ} {f : Expression → Expression → Expression → Expression} → Begins (t ∷ u ∷ v ∷ []) a k
      → ((x y z : Expression) → built (x ∷ y ∷ z ∷ []) ≡ f x y z) → Three t u v a k f
  three b means =
      let w = run-of-three built opened.tree (begun b) in
      record {
        first = w.first;
        second = w.second;
        third = w.third;
        ends = retold w.ends (means w.first.tree w.second.tree w.third.tree);
      }

  four : {t u v w a k : ℕ} {f : Expression → Expression → Expression → Expression → Expression} → Begins (t ∷ u ∷ v ∷ w ∷ []) a k
      → ((x y z q : Expression) → built (x ∷ y ∷ z ∷ q ∷ []) ≡ f x y z q) → Four t u v w a k f
  four b means =
      let w = run-of-four built opened.tree (begun b) in
      record {
        first = w.first;
        second = w.second;
        third = w.third;
        fourth = w.fourth;
        ends = retold w.ends (means w.first.tree w.second.tree w.third.tree w.fourth.tree);
      }

  -- By the kind: where the operands stand, and the tree. The types of an operation's operands are those of the table, or those that
  -- the code has.
  pub own-types : take (count_of kind) (operands_of kind asked) ≡ operands_of kind asked
  own-types = take_all (count_of kind) (operands_of kind asked) (omega (arith, operands-counted asked kind opened.good.kind))

  module _ (types : List ℕ) (e : take (count_of kind) types ≡ operands_of kind asked) where
    pub unary-types : 4 ≤ kind → kind < 6 → operands_of kind asked ≡ get_or types 0 0 ∷ []
    unary-types low high =
        let count : count_of kind ≡ 1 = ap (λ x. x.2) (unary-row kind low high) in
        one_type types _ (rw count at e) (operands-counted asked kind (omega arith) ∙ count)

    pub unary-view : 4 ≤ kind → kind < 6 → One (get_or types 0 0) (at + 1) cell (unary (unary_of kind))
    unary-view low high =
        let r = unary-row kind low high in
        one (record {
          types = unary-types low high;
          place = omega (arith, ap (λ x. x.0) r);
          cells = omega (arith, ap (λ x. x.1) r);
        }) (λ x. ap (λ r. r.3 (type_of_byte asked) (body_at sheet at) (x ∷ [])) r)

    pub binary-types : 6 ≤ kind → kind < 12 → operands_of kind asked ≡ get_or types 0 0 ∷ get_or types 1 0 ∷ []
    binary-types low high =
        let count : count_of kind ≡ 2 = ap (λ x. x.2) (binary-row kind low high) in
        two-types types _ (rw count at e) (operands-counted asked kind (omega arith) ∙ count)

    pub binary-view : 6 ≤ kind → kind < 12 → Two (get_or types 0 0) (get_or types 1 0) (at + 1) cell (binary (binary_of kind))
    binary-view low high =
        let r = binary-row kind low high in
        two (record {
          types = binary-types low high;
          place = omega (arith, ap (λ x. x.0) r);
          cells = omega (arith, ap (λ x. x.1) r);
        }) (λ x y. ap (λ r. r.3 (type_of_byte asked) (body_at sheet at) (x ∷ y ∷ [])) r)

  -- in either case the first operand
  pub operation_first : (types : List ℕ) → take (count_of kind) types ≡ operands_of kind asked → 4 ≤ kind → kind < 12
      → Operand (get_or types 0 0) (at + 1) cell
  operation_first types e low high = by (ltb kind 6) refl
    where
      by : (b : Bool) → ltb kind 6 ≡ b → Operand (get_or types 0 0) (at + 1) cell
      by true t = (unary-view types e low (ltb-true _ _ t)).first
      by false t = (binary-view types e (ltb-false _ _ t) high).first

  pub conditional-view : kind ≡ 12 → Three 0 asked asked (at + 1) cell conditional
  unfolding meaning_of operands_of
  conditional-view is = three (record { types = rw is; place = rw is (omega arith); cells = rw is (omega arith) }) (λ x y z. rw is)

  pub present-view : kind ≡ 13 → Three 0 asked asked (at + 1) cell present_of
  unfolding meaning_of operands_of
  present-view is = three (record { types = rw is; place = rw is (omega arith); cells = rw is (omega arith) }) (λ x y z. rw is)

  pub reset-view : kind ≡ 14 → Two 0 asked (at + 1) cell reset_of
  unfolding meaning_of operands_of
  reset-view is = two (record { types = rw is; place = rw is (omega arith); cells = rw is (omega arith) }) (λ x y. rw is)

  pub fby-view : kind ≡ 17 → Two asked asked (at + 1) (cell + 1) (fby (type_of_byte asked))
  unfolding meaning_of operands_of
  fby-view is = two (record { types = rw is; place = rw is (omega arith); cells = rw is (omega arith) }) (λ x y. rw is)

  pub machine-view : kind ≡ 19 → Four 0 0 asked asked (at + 1) (cell + 1) machine_of
  unfolding meaning_of operands_of
  machine-view is = four (record { types = rw is; place = rw is (omega arith); cells = rw is (omega arith) }) (λ x y z q. rw is)

  pub pre-view : 15 ≤ kind → kind < 17 → One asked (at + 1 + body_of kind) (cell + 1) (pre (datum_of (type_of_byte asked) (body_at sheet at)))
  pre-view low high =
      let r = pre-row kind low high in
      one (record {
        types = r.types p.inputs p.wires asked _ opened.good.type;
        place = refl;
        cells = omega (arith, ap (λ x. x.1) r.row);
      }) (λ x. ap (λ r. r.3 (type_of_byte asked) (body_at sheet at) (x ∷ [])) r.row)

  pub constant-view : kind < 2 → Alone (at + 1 + body_of kind) cell (constant (datum_of (type_of_byte asked) (body_at sheet at)))
  constant-view below =
      let r = constant-row kind below in
      alone (record {
        types = no-type _ (operands-counted asked kind (omega arith) ∙ ap (λ x. x.2) r);
        place = refl;
        cells = omega (arith, ap (λ x. x.1) r);
      }) (ap (λ r. r.3 (type_of_byte asked) (body_at sheet at) []) r)

  -- a wire or an input by its number, of the type asked; `plain` gives the type from its type byte
  pub record Named (plain : ℕ → ℕ) (types : List ℕ) (e : Expression) : Type 0 where
    pub leaf : Alone (at + 1 + body_of kind) cell e
    pub within : body_at sheet at < length types
    pub typed : plain (get_or types (body_at sheet at) 0) ≡ asked

  pub wire-view : kind ≡ 2 → Named plain_byte p.wires (wire (body_at sheet at))
  unfolding meaning_of operands_of
  wire-view is = record {
    leaf = alone (record { types = rw is; place = refl; cells = rw is (omega arith) }) (rw is);
    within = rw is (rw is at opened.good.names);
    typed = rw is (rw is at opened.good.type);
  }

  pub input-view : kind ≡ 3 → Named (λ b. b) p.inputs (input (body_at sheet at))
  unfolding meaning_of operands_of
  input-view is = record {
    leaf = alone (record { types = rw is; place = refl; cells = rw is (omega arith) }) (rw is);
    within = rw is (rw is at opened.good.names);
    typed = rw is (rw is at opened.good.type);
  }

  -- the cell of a kept wire, by the wire's number
  pub last_view : kind ≡ 18 → Named plain_byte p.wires (last (body_at sheet at))
  unfolding meaning_of operands_of
  last_view is = record {
    leaf = alone (record { types = rw is; place = refl; cells = rw is (omega arith) }) (rw is);
    within = rw is (rw is at opened.good.names);
    typed = rw is (rw is at opened.good.type);
  }

  pub last-kept : kind ≡ 18 → is_kept (get_or p.wires (body_at sheet at) 0) ≡ true
  last-kept is = rw is (not-false _ (rw is at opened.good.asked-kept))

  pub last_of : kind ≡ 18 → Last sheet at
  last_of is = record { whole = whole; kind = is; wire = omega (arith, (last_view is).within, p.stands.wire_limit) }

  -- for the value of a constant, a wire or an input
  pub leaf-of : kind < 4 → Leaf sheet at
  leaf-of below = record {
    whole = whole;
    kind = below;
    wire = λ of. omega (arith, (wire-view of).within, p.stands.wire_limit);
    entry = λ of. omega (arith, (input-view of).within, p.stands.input_limit);
  }

  -- the cell that a pre or an fby owns
  pub record OwnCell : Type 0 where
    pub form : CellForm
    pub stands : CellStands memory cell form (cell_at p.now.memory cell)
    pub reads : read_cell (type_of_byte asked) memory cell ≡ cell_at p.now.memory cell

  pub own-cell : 15 ≤ kind → kind < 18 → OwnCell
  own-cell low high =
      let r = cell_row (type_of_byte asked) (body_at sheet at) kind low high in
      let stands = first-stands (rw r.owns at opened.own) in
      record { form = r.form; stands = stands; reads = rw r.typed at stands.reads }

  -- the cell that a machine owns, which holds a Boolean whatever is asked
  pub record StateCell : Type 0 where
    pub stands : CellStands memory cell state_cell (cell_at p.now.memory cell)

  pub state-cell : kind ≡ 19 → StateCell
  state-cell is = record { stands = first-stands (rw is at opened.own) }

  pub operand-counted : {t a k : ℕ} (o : Operand t a k) → o.count ≡ k + cell_count o.tree
  operand-counted {t} {a} {k} o = (expression_extent p.inputs p.wires sheet (level - 1) t a k o.reads).counted
