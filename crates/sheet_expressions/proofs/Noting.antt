-- How the cells that are noted one after the other make those of a whole expression and of a whole run.
use Prim.Native.Nat.{ℕ, zero, suc, ◌+◌, ◌-◌, ◌*◌, ◌/◌, ◌%◌, ◌≤◌, ◌<◌}
use mathlib.Core.Path.{◌≡◌, refl, sym, ap, ◌∙◌}
use mathlib.Core.Bool.{Bool, true, false, ◌||◌, cond, or-false, or_assoc}
use mathlib.Core.List.{List, [], ◌∷◌, ◌++◌, append-nil}
use native.Mathlib.Nat.{add-zero}
use native.Mathlib.Numerals.{add-one, sub-one}
use native.Mathlib.Omega.{arith}
use lib.Dec.{eqb, ltb}
use lib.ListN.{length, get_or, take, drop, drop_of_length-le}
use lib.Seq.{sets, drop-cons}
use borrow.Author.Tests.{ltb-true, ltb-false, ne_eqb}
use Rattle.numbers.specs.Laws.{sets-append}
use Rattle.wires.specs.Sets.{member}
use Rattle.sheet.specs.Data.{ValueType, boolean, number, type_of, type_of_byte, plain_byte, is_kept, wire_type, datum_of}
use Rattle.sheet.specs.Expressions.{Expression, CellForm, pre_cell, fby_cell, kept_cell, state_cell, cell_forms}
use Rattle.sheet.specs.Kinds.{Owned, no_cell, pre-cell, fby-cell, state-cell}
use Rattle.sheet.specs.Kinds.{kind_count, owned_of, count_of, read_count_of, own_forms, operands_of}
use Rattle.sheet.specs.Lists.{among}
use Rattle.sheet.specs.Reads.{wires_read, all_read, wires_named}
use Rattle.sheet.specs.Readings.{Reading, got, erased, read_each, named_at, body_at, body_from, own_of, read_expression, Whole}
use Rattle.sheet.specs.Sheets.{forms_of}
use Rattle.sheet.specs.Memory.{type_byte, form_byte, start_memory, own_cell}
use Rattle.sheet.specs.Typing.{Pairwise, done, ◌then◌}
use Rattle.sheet.specs.Laws.Lists.{among-append}
use Rattle.sheet.specs.Laws.Readings.{not_good, got-next, got-count, kinds-between, ◌▸◌, end, OwnGood, own_good, ExpressionRead, run-view, expression_view}
use Rattle.sheet.specs.Laws.Readings.{own-starts, forms_of-kind, own_forms_length, forms_length, operands-counted}
use Rattle.sheet.specs.Laws.Readings.{ExpressionExtent, expression_extent, run-extent}
use Rattle.sheet.proofs.Laws.Reads.{reads-of-kind}
use Rattle.sheet_own.specs.Own.{Joins, LeafChecks, own_entries}
use Rattle.sheet_own.proofs.Nodes.{leaf-owned}
use Rattle.sheet_expressions.specs.Map.{no_owner, CellNoted, Entered, kept_forms, Checks}
use Rattle.sheet_expressions.proofs.Steps.{own-refused, own-passed, by-operands, is-got}
use Rattle.sheet.specs.Readings.{got_at}
use Rattle.sheet.specs.declared.Got.{Got}
use Rattle.sheet.specs.declared.Refused.{Refused}
use Rattle.std.specs.Prelude.{Result, Ok, Err}

-- an expression without operands and without a cell: a leaf, or what gives the cell of a kept wire
pub record Bare (k : ℕ) : Type 0 where
  pub known : k < kind_count
  pub operands : count_of k ≡ 0
  pub owned : owned_of k ≡ no_cell

pub leaf-bare : (k : ℕ) → k < 4 → Bare k
leaf-bare k l = record {
  known = omega arith;
  operands = kinds-between (λ k. count_of k ≡ 0) {low = 0} (refl ▸ refl ▸ refl ▸ refl ▸ end) k (omega arith) l;
  owned = leaf-owned k l;
}

last-bare : Bare 18
last-bare = record { known = omega arith; operands = refl; owned = refl }

bare_forms : {k : ℕ} → Bare k → (type : ValueType) (body : ℕ) (os : List Expression) → length os ≡ 0
    → own_forms k type body ++ forms_of os ≡ []
unfolding forms_of
bare_forms bare type body [] e = rw bare.owned
bare_forms bare type body (a ∷ os) e = absurd (omega arith)

-- so that none is read within the instant
bare-counted : {k : ℕ} → Bare k → read_count_of k ≡ 0
bare-counted bare = rw (bare.owned, bare.operands)

pub leaf-counted : (k : ℕ) → k < 4 → read_count_of k ≡ 0
leaf-counted k l = bare-counted (leaf-bare k l)

bare-reads : {k : ℕ} → Bare k → (body : ℕ) (os : List Expression) → length os ≡ 0
    → wires_named k body ++ all_read (take (read_count_of k) os) ≡ wires_named k body
unfolding all_read
bare-reads {k} bare body [] e = rw (bare-counted bare) (append-nil (wires_named k body))
bare-reads bare body (a ∷ os) e = absurd (omega arith)

-- a type byte is that of its type
type-back : (t : ℕ) → t < 2 → type_byte (type_of_byte t) ≡ t
type-back zero l = refl
type-back (suc zero) l = refl
type-back (suc (suc t)) l = absurd (omega arith)

datum-type : (t : ValueType) (word : ℕ) → type_of (datum_of t word) ≡ t
datum-type boolean word = refl
datum-type number word = refl

-- Cells that are noted one after the other.
pub entered-none : {s : List ℕ} {c : ℕ} {before : List ℕ} → Entered s [] c before before
entered-none = record { entries = []; noted = done; placed = refl }

pub pairs-length : {A B : Type 0} {R : A → B → Type 0} {xs : List A} {ys : List B} → Pairwise R xs ys → length ys ≡ length xs
pairs-length done = refl
pairs-length (r then rs) = ap suc (pairs-length rs)

pairs-append : {A B : Type 0} {R : A → B → Type 0} {xs vs : List A} {ys ws : List B} → Pairwise R xs ys → Pairwise R vs ws
    → Pairwise R (xs ++ vs) (ys ++ ws)
pairs-append done qs = qs
pairs-append (r then rs) qs = r then pairs-append rs qs

pub entered-append : {s : List ℕ} (fs gs : List CellForm) {c k : ℕ} {before between after : List ℕ} → k ≡ c + length fs
    → Entered s fs c before between → Entered s gs k between after → Entered s (fs ++ gs) c before after
entered-append fs gs {c} {k} {before} e p q = record {
  entries = p.entries ++ q.entries;
  noted = pairs-append p.noted q.noted;
  placed =
      q.placed ∙ rw (p.placed, e, ← (pairs-length p.noted)) (sym (sets-append p.entries q.entries before c));
}

-- the cell that an expression itself owns, which has number d
pub own-entered : (inputs wires s : List ℕ) (level t at c : ℕ) {d n k : ℕ} {before after : List ℕ} → t < 2 → length s ≤ 4096
    → OwnGood inputs wires s level t at c n k → after ≡ sets before d (own_entries (get_or s at 0) t at)
    → Entered s (own_forms (get_or s at 0) (type_of_byte t) (body_at s at)) d before after
unfolding start_memory
own-entered inputs wires s level t at c {d} {n} {k} {before} {after} l few g e =
    go (owned_of (get_or s at 0)) refl
  where
    whole : (entry : ℕ) → entry / 4 ≡ at → Whole s (entry / 4)
    whole entry q = rw q (record { kind = g.kind; ends = g.ends })

    noted : (of : CellForm) (form : ℕ) → form < 4 → form_byte of ≡ form
        → of.start ≡ own_cell (get_or s at 0) (body_at s at) → CellNoted s of (4 * at + form)
    noted of form small is starts =
        let place : (4 * at + form) / 4 ≡ at = omega arith in
        let rest : (4 * at + form) % 4 ≡ form = omega arith in
        let owned : eqb at no_owner ≡ false = ne_eqb at no_owner (λ e. omega (arith, g.starts)) in
        record { owner = λ other. whole (4 * at + form) place; starts = rw (place, owned) (sym starts); form = rest ∙ sym is }

    go : (o : Owned) → owned_of (get_or s at 0) ≡ o → Entered s (own_forms (get_or s at 0) (type_of_byte t) (body_at s at)) d before after
    go no_cell is = rw is record { entries = []; noted = done; placed = rw is at e }
    go pre-cell is =
        let starts = rw is at (own-starts inputs wires t (named_at s at) (body_at s at) (get_or s at 0) g.kind g.type) in
        rw is record {
          entries = (4 * at + t) ∷ [];
          noted = noted (pre_cell (datum_of (type_of_byte t) (body_at s at))) t (omega arith) (rw (datum-type, type-back t l, add-zero))
              (rw is (cc)) then done;
          placed = rw is at e;
        }
    go fby-cell is =
        let sum : 4 * at + t + 2 ≡ 4 * at + (t + 2) = omega arith in
        rw is record {
          entries = (4 * at + (t + 2)) ∷ [];
          noted = noted (fby_cell (type_of_byte t)) (t + 2) (omega arith) (rw (type-back t l)) (rw is refl) then done;
          placed = rw sum at (rw is at e);
        }
    go state-cell is = rw is record {
      entries = (4 * at + 0) ∷ [];
      noted = noted state_cell 0 (omega arith) refl (rw is refl) then done;
      placed = rw (← (add-zero (4 * at))) at (rw is at e);
    }

-- the cell that a wire itself owns, if it is kept: its entry is that of no owner, with the type byte
pub kept-entered : (byte : ℕ) {s : List ℕ} {d : ℕ} {before after : List ℕ} → is_kept byte ≡ true
    → after ≡ sets before d ((16384 + plain_byte byte) ∷ []) → Entered s (kept_forms byte) d before after
kept-entered byte {s} is e =
    let owner : (16384 + plain_byte byte) / 4 ≡ no_owner = omega arith in
    let form : (16384 + plain_byte byte) % 4 ≡ plain_byte byte = omega arith in
    let noted : CellNoted s (kept_cell (wire_type byte)) (16384 + plain_byte byte) = record {
      owner = λ other. absurd (other owner);
      starts = rw (owner, form);
      form = form ∙ rw (type-back (plain_byte byte) (omega arith), add-zero);
    } in
    rw is (record { entries = (16384 + plain_byte byte) ∷ []; noted = noted then done; placed = e })

-- What is joined to a set.
pub joins-none : {bits : ℕ} → Joins bits [] bits
unfolding among
joins-none {bits} = record { joined = λ k. sym (or-false (member bits k)) }

pub joins-append : {n m o : ℕ} (xs ys : List ℕ) → Joins n xs m → Joins m ys o → Joins n (xs ++ ys) o
joins-append {n} {m} {o} xs ys p q = record {
  joined = λ k.
      q.joined k ∙ ap (λ t. t || among k ys) (p.joined k) ∙ or_assoc (member n k) (among k xs) (among k ys)
      ∙ ap (λ t. member n k || t) (sym (among-append k xs ys));
}

-- nothing is said of a reading that is refused
pub refused_checks : {A : Type 0} {s : List ℕ} {forms : A → List CellForm} {reads : A → List ℕ} {x : Reading A} {c : ℕ}
    {r : Refused} {first after : List ℕ} {bits joint : ℕ} → Err r ≡ erased x → Checks s forms reads x c (Err r) first after bits joint
refused_checks e =
    record { answers = e; cells = λ a n k q. not_good (e ∙ ap erased q); reads = λ a n k q. not_good (e ∙ ap erased q) }

-- own bytes that are refused
pub own-stops : (inputs wires s : List ℕ) (level t at c : ℕ) {answer : Result Got Refused} {r : Refused} {d : ℕ} {first after : List ℕ}
    {bits joint : ℕ} → answer ≡ Err r → own_of inputs wires s level t at c ≡ Err r
    → Checks s cell_forms wires_read (read_expression inputs wires s level t at c) d answer first after bits joint
own-stops inputs wires s level t at c a e = rw a (refused_checks (own-refused inputs wires s t at c level e))

-- where an expression that was read ends, and the cells that are counted behind it
pub extent : (inputs wires s : List ℕ) (level t at c : ℕ) {d n k bits joint : ℕ} {answer : Result Got Refused} {before after : List ℕ}
    → Checks s cell_forms wires_read (read_expression inputs wires s level t at c) d answer before after bits joint → answer ≡ got_at n k
    → (e : Expression) × ExpressionExtent s at c e n k
extent inputs wires s level t at c h e =
    let (tree, read) = is-got (read_expression inputs wires s level t at c) (sym h.answers ∙ e) in
    (tree, expression_extent inputs wires s level t at c read)

-- what is left of a run from `at` on, with c cells counted before it, of which some are ahead, and of which `counted` expressions are
-- still read within the instant: once its cells are noted and its reads joined, those of the whole run are
pub record Left (s : List ℕ) (read : ℕ → ℕ → ℕ → Reading Expression) (ahead : ℕ) (ts : List ℕ) (at c n k : ℕ) (forms : List CellForm)
    (first : ℕ) (before between : List ℕ) (counted : ℕ) (ws : List ℕ) (start bits : ℕ) : Type 0 where
  pub rest : List Expression
  pub reads : read_each read ts at c ≡ got rest n k
  pub completes : {after : List ℕ} → Entered s (forms_of rest) (c - ahead) between after → Entered s forms first before after
  pub joins : {joint : ℕ} → Joins bits (all_read (take counted rest)) joint → Joins start ws joint

module _ (inputs wires s : List ℕ) (level ahead : ℕ) where
  abbrev read : ℕ → ℕ → ℕ → Reading Expression
  read = read_expression inputs wires s level

  -- one expression more, whose reads are kept where it is one of those that count
  pub left_step : (types : List ℕ) (counted i at c : ℕ) {m j n k first start bits joint : ℕ} {answer : Result Got Refused} {forms : List CellForm}
      {before between next : List ℕ} {ws : List ℕ} → i < length types → ahead ≤ c → answer ≡ got_at m j
      → Checks s cell_forms wires_read (read (get_or types i 0) at c) (c - ahead) answer between next bits joint
      → Left s read ahead (drop i types) at c n k forms first before between (counted - i) ws start bits
      → Left s read ahead (drop (i + 1) types) m j n k forms first before next (counted - (i + 1)) ws start
      (cond (ltb i counted) joint bits)
  unfolding forms_of all_read
  left_step types counted i at c {m} {j} {n} {k} {bits = bits} {joint = joint} more room e h left =
      let t = get_or types i 0 in
      let whole : read_each read (t ∷ drop (suc i) types) at c ≡ got left.rest n k = rw (drop-cons types i 0) at left.reads in
      let v = run-view read t (drop (suc i) types) at c whole in
      let same = sym e ∙ h.answers in
      let at_next : v.next ≡ m = got-next (same ∙ ap erased v.first) in
      let at_count : v.count ≡ j = got-count (same ∙ ap erased v.first) in
      let x = expression_extent inputs wires s level t at c v.first in
      let cells : j - ahead ≡ c - ahead + length (cell_forms v.head) = omega (arith, x.counted, forms_length v.head) in
      let here = h.cells v.head v.next v.count v.first in
      record {
        rest = v.tail;
        reads = rw (add-one, ← at_next, ← at_count) v.rest;
        completes = λ behind. left.completes (rw v.trees (entered-append (cell_forms v.head) (forms_of v.tail) cells here behind));
        joins = λ behind. left.joins (rw v.trees
            (kept v.head v.tail (h.reads v.head v.next v.count v.first) behind));
      }
    where
      kept : (head : Expression) (tail : List Expression) → Joins bits (wires_read head) joint → {last : ℕ}
          → Joins (cond (ltb i counted) joint bits) (all_read (take (counted - (i + 1)) tail)) last
          → Joins bits (all_read (take (counted - i) (head ∷ tail))) last
      kept head tail here {last} behind = go (ltb i counted) refl behind
        where
          go : (b : Bool) → ltb i counted ≡ b → Joins (cond b joint bits) (all_read (take (counted - (i + 1)) tail)) last
              → Joins bits (all_read (take (counted - i) (head ∷ tail))) last
          go true low behind =
              let l = ltb-true i counted low in
              let one : counted - i ≡ suc (counted - (i + 1)) = omega arith in
              rw one (joins-append (wires_read head) (all_read (take (counted - (i + 1)) tail)) here behind)
          go false high behind =
              let l = ltb-false i counted high in
              let none : counted - i ≡ 0 = omega arith in
              let none-behind : counted - (i + 1) ≡ 0 = omega arith in
              rw none (rw none-behind at behind)

  pub left-none : (types : List ℕ) (i at c : ℕ) {n k first counted start bits : ℕ} {forms : List CellForm} {before between ws : List ℕ}
      → length types ≤ i → Left s read ahead (drop i types) at c n k forms first before between counted ws start bits
      → Entered s forms first before between × Joins start ws bits
  unfolding read_each forms_of all_read
  left-none types i at c {n} {k} {counted = counted} over left =
      let whole : read_each read [] at c ≡ got left.rest n k = rw (drop_of_length-le types over) at left.reads in
      let none : left.rest ≡ [] = cc in
      (left.completes (rw none entered-none), left.joins (rw (none, nothing counted) joins-none))
    where
      nothing : (n : ℕ) → take {A = Expression} n [] ≡ []
      nothing zero = refl
      nothing (suc n) = refl

-- an expression's own cell, then those of its operands; what it reads is what they read
pub whole_checks : (inputs wires s : List ℕ) (ahead level t at c : ℕ) {n k bits joint : ℕ} {answer : Result Got Refused} {first next after : List ℕ}
    → t < 2 → length s ≤ 4096 → ahead ≤ c → 4 ≤ get_or s at 0 → own_of inputs wires s level t at c ≡ got_at n k
    → next ≡ sets first (c - ahead) (own_entries (get_or s at 0) t at)
    → Checks s forms_of (λ es. all_read (take (read_count_of (get_or s at 0)) es))
    (read_each (read_expression inputs wires s (level - 1)) (operands_of (get_or s at 0) t) n k) (k - ahead) answer next after bits
    joint
    → Checks s cell_forms wires_read (read_expression inputs wires s level t at c) (c - ahead) answer first after bits joint
whole_checks inputs wires s ahead zero t at c small few room node own h g =
    absurd (omega (arith, (own_good inputs wires s zero t at c own).levels))
whole_checks inputs wires s ahead (suc l) t at c {n} {k} small few room node own h g = record {
  answers = g.answers ∙ by-operands inputs wires s t at c (suc l) (omega arith) own;
  cells = λ e m j r.
      let v = view e m j r in
      let own-forms = own_forms kind (type_of_byte t) (body_at s at) in
      let cells : k - ahead ≡ c - ahead + length own-forms =
      omega (arith, own_forms_length (type_of_byte t) (body_at s at) kind v.0.good.kind, v.0.good.count, v.2) in
      rw (ap cell_forms v.0.tree ∙ forms_of-kind kind v.0.good.kind (type_of_byte t) (body_at s at) v.0.operands v.4)
      (entered-append own-forms (forms_of v.0.operands) cells
      (own-entered inputs wires s (suc l) t at c small few v.0.good h) (g.cells v.0.operands m j v.3));
  reads = λ e m j r.
      let v = view e m j r in
      let named : wires_named kind (body_at s at) ≡ [] = rw (ne_eqb kind 2 (λ q. omega arith)) in
      rw (ap wires_read v.0.tree ∙ reads-of-kind kind v.0.good.kind (type_of_byte t) (body_at s at) v.0.operands v.4, named)
      (g.reads v.0.operands m j v.3);
}
  where
    kind : ℕ
    kind = get_or s at 0

    view : (e : Expression) (m j : ℕ) → read_expression inputs wires s (suc l) t at c ≡ got e m j
        → (v : ExpressionRead inputs wires s l t at c e m j) × (v.first ≡ n) × (v.before ≡ k)
        × (read_each (read_expression inputs wires s (suc l - 1)) (operands_of kind t) n k ≡ got v.operands m j)
        × (length v.operands ≡ count_of kind)
    view e m j r =
        let v = expression_view inputs wires s l t at c r in
        let next-is : v.first ≡ n = got-next (sym own ∙ v.own) in
        let count-is : v.before ≡ k = got-count (sym own ∙ v.own) in (
          v,
          next-is,
          count-is,
          rw (sub-one, ← next-is, ← count-is) v.each,
          (run-extent inputs wires s l (operands_of kind t) v.first v.before v.each).sized ∙ operands-counted t kind v.good.kind,
        )

-- where nothing is asked nothing is read
none-asked : (read : ℕ → ℕ → ℕ → Reading Expression) (ts : List ℕ) (at c : ℕ) → length ts ≡ 0 → got_at at c ≡ erased (read_each read ts at c)
unfolding read_each
none-asked read [] at c z = refl
none-asked read (t ∷ ts) at c z = absurd (omega arith)

-- an expression without operands and without a cell ends with its own bytes
pub bare_checks : (inputs wires s : List ℕ) (level t at c : ℕ) {answer : Result Got Refused} {d bits joint : ℕ} {cells : List ℕ} → 1 ≤ level
    → at < length s → Bare (get_or s at 0) → LeafChecks inputs wires s t at c answer bits joint
    → Checks s cell_forms wires_read (read_expression inputs wires s level t at c) d answer cells cells bits joint
bare_checks inputs wires s zero t at c levels byte bare h = absurd (omega arith)
bare_checks inputs wires s (suc l) t at c {answer} {d} {bits} {joint} {cells} levels byte bare h = by answer refl
  where
    kind : ℕ
    kind = get_or s at 0

    own : own_of inputs wires s (suc l) t at c ≡ answer
    own = own-passed inputs wires s t at c (suc l) byte bare.known (omega arith) ∙ sym h.answers

    none : length (operands_of kind t) ≡ 0
    none = operands-counted t kind bare.known ∙ bare.operands

    by : (r : Result Got Refused) → answer ≡ r → Checks s cell_forms wires_read (read_expression inputs wires s (suc l) t at c) d
        answer cells cells bits joint
    by (Err r) e = rw e (refused_checks (own-refused inputs wires s t at c (suc l) (own ∙ e)))
    by (Ok a) e = record {
      answers = e ∙ none-asked (read_expression inputs wires s (suc l - 1)) (operands_of kind t) a.next a.count none
          ∙ by-operands inputs wires s t at c (suc l) (omega arith) (own ∙ e);
      cells = λ x m j r.
          let v = expression_view inputs wires s l t at c r in
          let sized = (run-extent inputs wires s l (operands_of kind t) v.first v.before v.each).sized in
          rw (ap cell_forms v.tree
          ∙ forms_of-kind kind v.good.kind (type_of_byte t) (body_at s at) v.operands (sized ∙ operands-counted t kind v.good.kind)
          ∙ bare_forms bare (type_of_byte t) (body_at s at) v.operands (sized ∙ none))
          entered-none;
      reads = λ x m j r.
          let v = expression_view inputs wires s l t at c r in
          let sized = (run-extent inputs wires s l (operands_of kind t) v.first v.before v.each).sized in
          rw (ap wires_read v.tree
          ∙ reads-of-kind kind v.good.kind (type_of_byte t) (body_at s at) v.operands (sized ∙ operands-counted t kind v.good.kind)
          ∙ bare-reads bare (body_at s at) v.operands (sized ∙ none))
          (h.reads a.next a.count e);
    }

-- what gives the cell of a kept wire reads no wire
pub last_checks : (inputs wires s : List ℕ) (level t at c : ℕ) {answer : Result Got Refused} {d bits : ℕ} {cells : List ℕ} → 1 ≤ level → at < length s
    → get_or s at 0 ≡ 18 → answer ≡ body_from inputs wires s t at c
    → Checks s cell_forms wires_read (read_expression inputs wires s level t at c) d answer cells cells bits bits
last_checks inputs wires s level t at c levels byte last e =
    bare_checks inputs wires s level t at c levels byte (rw last last-bare) record { answers = e; reads = λ n k got. rw last joins-none }
