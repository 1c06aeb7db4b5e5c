-- The laws of a reading that gives something: what its own bytes show, how its operands read, where it ends, what it owns.
use Prim.Native.Nat.{ℕ, zero, suc, ◌+◌, ◌-◌, ◌≤◌, ◌<◌}
use Rattle.std.specs.Prelude.{◌≡◌, refl, Bool, true, false, cond, leb, ltb, eqb}
use Rattle.std.proofs.Common.{sym, ◌∙◌, arith, zero-add, length-append}
use Rattle.std.proofs.Math.Path.{ap}
use mathlib.Core.List.{List, [], ◌∷◌, ◌++◌, append-nil, append_assoc}
use Rattle.std.proofs.Math.ListN.{length, get_or}
use borrow.Author.Tests.{leb-false, ltb-false, eqb-true, eqb-false}
use Rattle.sheet.specs.Data.{ValueType, type_of_byte, datum_of}
use Rattle.sheet.specs.Expressions.{Expression, constant, wire, input, last, unary, binary, conditional, switch, pre, fby, kept}
use Rattle.sheet.specs.Expressions.{Alternatives, only, either, pre_cell, fby_cell, state_cell, cell_forms, forms_in, cell_count, count_in}
use Rattle.sheet.specs.Kinds.{body_of, cells_of, count_of, own_forms, operand, operands_of, limit_of, names_unkept, found_of, meaning_of, kind_count}
use Rattle.sheet.specs.Readings.{Reading, refused, got, and_then, on_read, read_each, named_at, body_at}
use Rattle.sheet.specs.Readings.{names_of, body_from, own_of, read_expression}
use Rattle.sheet.specs.Sheets.{forms_of}
use Rattle.sheet.specs.Memory.{start_memory, own_cell}
use Rattle.sheet.specs.declared.Refusal.{Refusal}
use Rattle.sheet.specs.declared.Cell.{Cell}
use Rattle.sheet.specs.Outcomes.{refused_at}
use Rattle.sheet.specs.Readings.{got_at}
use Rattle.sheet.specs.declared.Got.{Got}
use Rattle.sheet.specs.declared.Refused.{Refused}
use Rattle.std.specs.Prelude.{Result, Ok, Err}

-- A reading that goes on after a part was good in that part.
pub not_good : {A : Type 0} {why : Refusal} {place n k : ℕ} → refused_at why place ≡ got_at n k → A
not_good e = absurd (let z : ◌≡◌ {A = ℕ} 0 1 = cc in omega arith)

pub not-got : {A B : Type 0} {why : Refusal} {place n k : ℕ} {b : B} → refused why place ≡ got b n k → A
not-got e = absurd (let z : ◌≡◌ {A = ℕ} 0 1 = cc in omega arith)

pub got-next : {n k m j : ℕ} → got_at m j ≡ got_at n k → n ≡ m
got-next {n} {k} {m} {j} e =
    let same : ◌≡◌ {A = Got} (record { next = n; count = k }) (record { next = m; count = j }) = cc in ap (λ (a : Got). a.next) same

pub got-count : {n k m j : ℕ} → got_at m j ≡ got_at n k → k ≡ j
got-count {n} {k} {m} {j} e =
    let same : ◌≡◌ {A = Got} (record { next = n; count = k }) (record { next = m; count = j }) = cc in ap (λ (a : Got). a.count) same

-- the test failed to refuse, and the rest is good
pub passed : (test : Bool) (why : Refusal) (place : ℕ) (rest : Result Got Refused) {n k : ℕ} → cond test (refused_at why place) rest ≡ got_at n k
    → (test ≡ false) × (rest ≡ got_at n k)
passed true why place rest e = not_good e
passed false why place rest e = (refl, e)

pub passed-reading : {A : Type 0} (test : Bool) (why : Refusal) (place : ℕ) (rest : Reading A) {a : A} {n k : ℕ}
    → cond test (refused why place) rest ≡ got a n k → (test ≡ false) × (rest ≡ got a n k)
passed-reading true why place rest e = not-got e
passed-reading false why place rest e = (refl, e)

-- the test passed, and what it passed on is good
pub granted : (test : Bool) (why : Refusal) (place : ℕ) (rest : Result Got Refused) {n k : ℕ} → cond test rest (refused_at why place) ≡ got_at n k
    → (test ≡ true) × (rest ≡ got_at n k)
granted true why place rest e = (refl, e)
granted false why place rest e = not_good e

pub and_then-got : {A B : Type 0} (first : Reading A) (f : A → ℕ → ℕ → Reading B) {b : B} {n k : ℕ} → and_then first f ≡ got b n k
    → (a : A) × (m : ℕ) × (j : ℕ) × (first ≡ got a m j) × (f a m j ≡ got b n k)
and_then-got (refused why place) f e = not-got e
and_then-got (got a m j) f e = (a, m, j, refl, e)

pub on_read-got : {B : Type 0} (first : Result Got Refused) (f : ℕ → ℕ → Reading B) {b : B} {n k : ℕ} → on_read first refused f ≡ got b n k
    → (m : ℕ) × (j : ℕ) × (first ≡ got_at m j) × (f m j ≡ got b n k)
on_read-got (Err r) f e = not-got e
on_read-got (Ok a) f e = (a.next, a.count, refl, e)

-- what an expression's own bytes show where they are good: behind them stands n, and k cells were counted
pub record OwnGood (inputs wires s : List ℕ) (level t at c n k : ℕ) : Type 0 where
  pub starts : at < length s
  pub kind : get_or s at 0 < kind_count
  pub levels : 1 ≤ level
  pub cells : c + cells_of (get_or s at 0) ≤ 64
  pub ends : at + 1 + body_of (get_or s at 0) ≤ length s
  pub names : named_at s at < limit_of inputs wires (get_or s at 0)
  pub asked-kept : names_unkept wires (get_or s at 0) (named_at s at) ≡ false
  pub type : found_of inputs wires t (get_or s at 0) (named_at s at) ≡ t
  pub next : n ≡ at + 1 + body_of (get_or s at 0)
  pub count : k ≡ c + cells_of (get_or s at 0)

-- an expression that reads as e, with l levels left for its operands
pub record ExpressionRead (inputs wires s : List ℕ) (l t at c : ℕ) (e : Expression) (n k : ℕ) : Type 0 where
  pub first : ℕ
  pub before : ℕ
  pub operands : List Expression
  pub own : own_of inputs wires s (suc l) t at c ≡ got_at first before
  pub good : OwnGood inputs wires s (suc l) t at c first before
  pub each : read_each (read_expression inputs wires s l) (operands_of (get_or s at 0) t) first before ≡ got operands n k
  pub tree : e ≡ meaning_of (get_or s at 0) (type_of_byte t) (body_at s at) operands

-- a run of expressions, of which the first has type t asked
pub record RunRead (read : ℕ → ℕ → ℕ → Reading Expression) (t : ℕ) (ts : List ℕ) (at c : ℕ) (es : List Expression) (n k : ℕ)
    : Type 0 where
  pub head : Expression
  pub tail : List Expression
  pub next : ℕ
  pub count : ℕ
  pub first : read t at c ≡ got head next count
  pub rest : read_each read ts next count ≡ got tail n k
  pub trees : es ≡ head ∷ tail

pub run-view : (read : ℕ → ℕ → ℕ → Reading Expression) (t : ℕ) (ts : List ℕ) (at c : ℕ) {es : List Expression} {n k : ℕ}
    → read_each read (t ∷ ts) at c ≡ got es n k → RunRead read t ts at c es n k
unfolding read_each
run-view read t ts at c {es} {n} {k} e =
    let (head, next, count, first, e₁) = and_then-got (read t at c) _ e in
    let (tail, m, j, rest, e₂) = and_then-got (read_each read ts next count) _ e₁ in
    record { head = head; tail = tail; next = next; count = count; first = first; rest = cc; trees = cc }

module _ (inputs wires s : List ℕ) where
  pub own_good : (level t at c : ℕ) {n k : ℕ} → own_of inputs wires s level t at c ≡ got_at n k → OwnGood inputs wires s level t at c n k
  unfolding own_of body_from names_of
  own_good level t at c {n} {k} e =
      let kind = get_or s at 0 in
      let has-byte = passed (leb (length s) at) _ _ _ e in
      let has-kind = passed (leb kind_count kind) _ _ _ has-byte.1 in
      let has-level = passed (eqb level 0) _ _ _ has-kind.1 in
      let has-cell = passed (ltb 64 (c + cells_of kind)) _ _ _ has-level.1 in
      let has_body = passed (ltb (length s) (at + 1 + body_of kind)) _ _ _ has-cell.1 in
      let has-name = passed (leb (limit_of inputs wires kind) (named_at s at)) _ _ _ has_body.1 in
      let Has-kept = passed (names_unkept wires kind (named_at s at)) _ _ _ has-name.1 in
      let has-type = granted (eqb (found_of inputs wires t kind (named_at s at)) t) _ _ _ Has-kept.1 in
      record {
        starts = leb-false _ _ has-byte.0;
        kind = leb-false _ _ has-kind.0;
        levels = omega (arith, eqb-false level 0 has-level.0);
        cells = ltb-false _ _ has-cell.0;
        ends = ltb-false _ _ has_body.0;
        names = leb-false _ _ has-name.0;
        asked-kept = Has-kept.0;
        type = eqb-true _ _ has-type.0;
        next = got-next has-type.1;
        count = got-count has-type.1;
      }

  pub no-level : (t at c : ℕ) {e : Expression} {n k : ℕ} → read_expression inputs wires s zero t at c ≡ got e n k → ⊥
  unfolding read_expression
  no-level t at c r =
      let (m, j, own, r₁) = on_read-got (own_of inputs wires s zero t at c) _ r in
      omega (arith, own_good zero t at c own)

  pub expression_view : (l t at c : ℕ) {e : Expression} {n k : ℕ} → read_expression inputs wires s (suc l) t at c ≡ got e n k
      → ExpressionRead inputs wires s l t at c e n k
  unfolding read_expression
  expression_view l t at c {e} {n} {k} r =
      let (m, j, own, r₁) = on_read-got (own_of inputs wires s (suc l) t at c) _ r in
      let (os, m₁, j₁, each, r₂) = and_then-got (read_each (read_expression inputs wires s l) (operands_of (get_or s at 0) t) m j) _ r₁ in
      record {
        first = m;
        before = j;
        operands = os;
        own = own;
        good = own_good (suc l) t at c own;
        each = cc;
        tree = cc;
      }

-- What is shown row by row, from row k on.
infixr 5 ◌▸◌
pub data Rows (P : ℕ → Type 0) : ℕ → ℕ → Type 0 where
  end : {k : ℕ} → Rows P k 0
  ◌▸◌ : {k n : ℕ} → P k → Rows P (suc k) n → Rows P k (suc n)

pub row_at : (P : ℕ → Type 0) {k n : ℕ} → Rows P k n → (i : ℕ) → i < n → P (k + i)
row_at P end i l = absurd (omega arith)
row_at P {k} (p ▸ ps) zero l = let e : k + 0 ≡ k = omega arith in rw e p
row_at P {k} (p ▸ ps) (suc i) l = let e : k + suc i ≡ suc k + i = omega arith in rw e (row_at P ps i (omega arith))

-- what is shown of some rows of the table, one behind the other, holds of every kind between them
pub kinds-between : (P : ℕ → Type 0) {low n : ℕ} → Rows P low n → (k : ℕ) → low ≤ k → k < low + n → P k
kinds-between P {low} rows k above below =
    let e : low + (k - low) ≡ k = omega arith in
    rw e at (row_at P rows (k - low) (omega arith))

-- and of each row, of every kind
pub every-kind : (P : ℕ → Type 0) → Rows P 0 kind_count → (k : ℕ) → k < kind_count → P k
every-kind P rows k l = rw zero-add at (row_at P rows k l)

pub operands-counted : (t k : ℕ) → k < kind_count → length (operands_of k t) ≡ count_of k
unfolding operands_of
operands-counted t = every-kind (λ k. length (operands_of k t) ≡ count_of k)
    (refl ▸ refl ▸ refl ▸ refl ▸ refl ▸ refl ▸ refl ▸ refl ▸ refl
    ▸ refl ▸ refl ▸ refl ▸ refl ▸ refl ▸ refl ▸ refl ▸ refl ▸ refl ▸ refl ▸ refl ▸ end)

forms_of-none : (os : List Expression) → length os ≡ 0 → [] ≡ forms_of os
unfolding forms_of
forms_of-none [] e = refl
forms_of-none (a ∷ os) e = absurd (omega arith)

forms_of-one : (os : List Expression) → length os ≡ 1 → cell_forms (operand os 0) ≡ forms_of os
unfolding forms_of
forms_of-one [] e = absurd (omega arith)
forms_of-one (a ∷ os) e =
    let rest = forms_of-none os (omega arith) in sym (append-nil (cell_forms a)) ∙ ap (λ fs. cell_forms a ++ fs) rest

forms_of-two : (os : List Expression) → length os ≡ 2 → cell_forms (operand os 0) ++ cell_forms (operand os 1) ≡ forms_of os
unfolding forms_of
forms_of-two [] e = absurd (omega arith)
forms_of-two (a ∷ os) e = ap (λ fs. cell_forms a ++ fs) (forms_of-one os (omega arith))

forms_of-three : (os : List Expression) → length os ≡ 3
    → cell_forms (operand os 0) ++ (cell_forms (operand os 1) ++ cell_forms (operand os 2)) ≡ forms_of os
unfolding forms_of
forms_of-three [] e = absurd (omega arith)
forms_of-three (a ∷ os) e = ap (λ fs. cell_forms a ++ fs) (forms_of-two os (omega arith))

-- those of two pairs of operands, as a machine has them
forms_of-pairs : (os : List Expression) → length os ≡ 4
    → (cell_forms (operand os 0) ++ cell_forms (operand os 1)) ++ (cell_forms (operand os 2) ++ cell_forms (operand os 3)) ≡ forms_of os
unfolding forms_of
forms_of-pairs [] e = absurd (omega arith)
forms_of-pairs (a ∷ []) e = absurd (omega arith)
forms_of-pairs (a ∷ b ∷ os) e =
    append_assoc (cell_forms a) (cell_forms b) _ ∙ ap (λ fs. cell_forms a ++ (cell_forms b ++ fs)) (forms_of-two os (omega arith))

abbrev FormsOfKind : ℕ → Type 0
FormsOfKind k = (type : ValueType) (body : ℕ) (os : List Expression) → length os ≡ count_of k
    → cell_forms (meaning_of k type body os) ≡ own_forms k type body ++ forms_of os

pub forms_of-kind : (k : ℕ) → k < kind_count → FormsOfKind k
unfolding meaning_of cell_forms
forms_of-kind = every-kind FormsOfKind
    (none ▸ none ▸ none ▸ none ▸ one ▸ one ▸ two ▸ two ▸ two ▸ two ▸ two ▸ two
    ▸ three ▸ three ▸ two ▸ of-pre ▸ of-pre ▸ of-fby ▸ none ▸ of-machine ▸ end)
  where
    none : ValueType → ℕ → (os : List Expression) → length os ≡ 0 → [] ≡ forms_of os
    none t b = forms_of-none

    one : ValueType → ℕ → (os : List Expression) → length os ≡ 1 → cell_forms (operand os 0) ≡ forms_of os
    one t b = forms_of-one

    two : ValueType → ℕ → (os : List Expression) → length os ≡ 2 → cell_forms (operand os 0) ++ cell_forms (operand os 1) ≡ forms_of os
    two t b = forms_of-two

    three : ValueType → ℕ → (os : List Expression) → length os ≡ 3
        → cell_forms (operand os 0) ++ (cell_forms (operand os 1) ++ cell_forms (operand os 2)) ≡ forms_of os
    three t b = forms_of-three

    of-pre : (t : ValueType) (b : ℕ) (os : List Expression) → length os ≡ 1
        → pre_cell (datum_of t b) ∷ cell_forms (operand os 0) ≡ pre_cell (datum_of t b) ∷ forms_of os
    of-pre t b os e = ap (λ fs. pre_cell (datum_of t b) ∷ fs) (forms_of-one os e)

    of-fby : (t : ValueType) → ℕ → (os : List Expression) → length os ≡ 2
        → fby_cell t ∷ (cell_forms (operand os 0) ++ cell_forms (operand os 1)) ≡ fby_cell t ∷ forms_of os
    of-fby t b os e = ap (λ fs. fby_cell t ∷ fs) (forms_of-two os e)

    of-machine : (t : ValueType) → ℕ → (os : List Expression) → length os ≡ 4
        → state_cell ∷ ((cell_forms (operand os 0) ++ cell_forms (operand os 1)) ++ (cell_forms (operand os 2) ++ cell_forms (operand os 3)))
        ≡ state_cell ∷ forms_of os
    of-machine t b os e = ap (λ fs. state_cell ∷ fs) (forms_of-pairs os e)

-- where t is asked of a kind and found, the cell that it owns starts as its kind alone says
pub own-starts : (inputs wires : List ℕ) (t n b k : ℕ) → k < kind_count → found_of inputs wires t k n ≡ t
    → start_memory (own_forms k (type_of_byte t) b) ≡ cond (eqb (cells_of k) 0) [] (own_cell k b ∷ [])
unfolding start_memory
own-starts inputs wires t n b = every-kind (λ k. found_of inputs wires t k n ≡ t
    → start_memory (own_forms k (type_of_byte t) b) ≡ cond (eqb (cells_of k) 0) [] (own_cell k b ∷ []))
    (same ▸ same ▸ same ▸ same ▸ same ▸ same ▸ same ▸ same ▸ same ▸ same ▸ same ▸ same ▸ same ▸ same ▸ same
    ▸ (λ e. rw (← e)) ▸ (λ e. rw (← e)) ▸ same ▸ same ▸ same ▸ end)
  where
    same : {A : Type 0} {cells : List Cell} → A → cells ≡ cells
    same e = refl

pub own_forms_length : (type : ValueType) (body k : ℕ) → k < kind_count → length (own_forms k type body) ≡ cells_of k
own_forms_length type body = every-kind (λ k. length (own_forms k type body) ≡ cells_of k)
    (refl ▸ refl ▸ refl ▸ refl ▸ refl ▸ refl ▸ refl ▸ refl ▸ refl
    ▸ refl ▸ refl ▸ refl ▸ refl ▸ refl ▸ refl ▸ refl ▸ refl ▸ refl ▸ refl ▸ refl ▸ end)

mutual
  unfolding cell_forms cell_count

  pub forms_length : (e : Expression) → length (cell_forms e) ≡ cell_count e
  forms_length (constant d) = refl
  forms_length (wire w) = refl
  forms_length (input i) = refl
  forms_length (last w) = refl
  forms_length (unary o a) = forms_length a
  forms_length (binary o a b) = simp (length-append, forms_length a, forms_length b)
  forms_length (conditional c a b) = simp (length-append, forms_length c, forms_length a, forms_length b)
  forms_length (switch o cs bs) = simp (length-append, forms_in_length cs, forms_in_length bs)
  forms_length (pre d a) = ap suc (forms_length a)
  forms_length (fby t a b) = simp (length-append, forms_length a, forms_length b)
  forms_length (kept t a) = ap suc (forms_length a)

  pub forms_in_length : (xs : Alternatives) → length (forms_in xs) ≡ count_in xs
  forms_in_length (only a) = forms_length a
  forms_in_length (either a b) = simp (length-append, forms_length a, forms_length b)

-- where an expression from `at` on ends, and the cells that were counted behind it
pub record ExpressionExtent (s : List ℕ) (at c : ℕ) (e : Expression) (n k : ℕ) : Type 0 where
  pub forward : at < n
  pub within : n ≤ length s
  pub counted : k ≡ c + cell_count e
  pub limited : k ≤ 64

-- and a run of expressions, one for each type
pub record RunExtent (s ts : List ℕ) (at c : ℕ) (es : List Expression) (n k : ℕ) : Type 0 where
  pub sized : length es ≡ length ts
  pub forward : at ≤ n
  pub within : at ≤ length s → n ≤ length s
  pub counted : k ≡ c + length (forms_of es)
  pub limited : c ≤ 64 → k ≤ 64

-- a run's extent, where every expression of it has one
module _ (s : List ℕ) (read : ℕ → ℕ → ℕ → Reading Expression)
    (one : (t at c : ℕ) (e : Expression) (n k : ℕ) → read t at c ≡ got e n k → ExpressionExtent s at c e n k) where
  extent-of-run : (ts : List ℕ) (at c : ℕ) {es : List Expression} {n k : ℕ} → read_each read ts at c ≡ got es n k
      → RunExtent s ts at c es n k
  unfolding read_each forms_of
  extent-of-run [] at c {es} {n} {k} e =
      let trees : es ≡ [] = cc in
      let next : n ≡ at = cc in
      let count : k ≡ c = cc in
      let none : length (forms_of es) ≡ 0 = rw trees in
      record {
        sized = ap length trees;
        forward = omega arith;
        within = λ h. omega arith;
        counted = omega arith;
        limited = λ h. omega arith;
      }
  extent-of-run (t ∷ ts) at c {es} {n} {k} e =
      let v = run-view read t ts at c e in
      let first = one t at c v.head v.next v.count v.first in
      let rest = extent-of-run ts v.next v.count v.rest in
      let forms : length (forms_of es) ≡ cell_count v.head + length (forms_of v.tail) =
      ap (λ x. length (forms_of x)) v.trees ∙ simp (length-append, forms_length) in
      record {
        sized = ap length v.trees ∙ ap suc rest.sized;
        forward = omega arith;
        within = λ h. rest.within first.within;
        counted = omega arith;
        limited = λ h. rest.limited first.limited;
      }

module _ (inputs wires s : List ℕ) where
  pub expression_extent : (level t at c : ℕ) {e : Expression} {n k : ℕ} → read_expression inputs wires s level t at c ≡ got e n k
      → ExpressionExtent s at c e n k
  expression_extent zero t at c r = absurd (no-level inputs wires s t at c r)
  expression_extent (suc l) t at c {e} {n} {k} r =
      let v = expression_view inputs wires s l t at c r in
      let g = v.good in
      let kind = get_or s at 0 in
      let run =
      extent-of-run s (read_expression inputs wires s l) (λ u a b f m j. expression_extent l u a b)
      (operands_of kind t) v.first v.before v.each in
      let operands : length v.operands ≡ count_of kind = run.sized ∙ operands-counted t kind g.kind in
      let forms = forms_of-kind kind g.kind (type_of_byte t) (body_at s at) v.operands operands in
      let own = own_forms_length (type_of_byte t) (body_at s at) kind g.kind in
      let count : cell_count e ≡ cells_of kind + length (forms_of v.operands) =
      sym (forms_length e) ∙ ap (λ x. length (cell_forms x)) v.tree ∙ ap length forms
      ∙ length-append (own_forms kind (type_of_byte t) (body_at s at)) (forms_of v.operands)
      ∙ ap (λ x. x + length (forms_of v.operands)) own in
      record {
        forward = omega (arith, run.forward);
        within = run.within (omega arith);
        counted = omega (arith, run.counted);
        limited = run.limited (omega arith);
      }

  pub run-extent : (level : ℕ) (ts : List ℕ) (at c : ℕ) {es : List Expression} {n k : ℕ}
      → read_each (read_expression inputs wires s level) ts at c ≡ got es n k → RunExtent s ts at c es n k
  run-extent level = extent-of-run s (read_expression inputs wires s level) (λ t at c e n k. expression_extent level t at c)
