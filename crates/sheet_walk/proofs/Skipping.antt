-- The expressions still ahead of the walk past an expression, and that an expression that reads is such a walk.
use Prim.Native.Nat.{ℕ, zero, suc, ◌+◌, ◌-◌, ◌≤◌, ◌<◌}
use mathlib.Core.Path.{◌≡◌, refl}
use mathlib.Core.List.{List, [], ◌∷◌}
use native.Mathlib.Omega.{arith}
use native.Mathlib.Nat.{zero-add, suc-add}
use lib.ListN.{length, get_or}
use Rattle.sheet.specs.Expressions.{Expression}
use Rattle.sheet.specs.Kinds.{body_of, cells_of, count_of, operands_of}
use Rattle.sheet.specs.Readings.{Reading, got, read_each, read_expression, Whole}
use Rattle.sheet_walk.specs.Skips.{Readable}
use Rattle.sheet_walk.specs.declared.Place.{Place}
use Rattle.sheet.specs.Laws.Readings.{expression_view, run-view, no-level, operands-counted}

-- with `pending` expressions ahead from `at` on and c cells before them, they end at n with k cells
pub data Ahead (s : List ℕ) : (at c pending n k : ℕ) → Type 0 where
  done : {n k : ℕ} → Ahead s n k 0 n k
  one : {at c pending n k : ℕ} → Whole s at → c + cells_of (get_or s at 0) ≤ 64
      → Ahead s (at + 1 + body_of (get_or s at 0)) (c + cells_of (get_or s at 0)) (count_of (get_or s at 0) + pending) n k
      → Ahead s at c (suc pending) n k

-- an expression that reads, for `read`: ahead of what is pending, it is one more
abbrev Walks : List ℕ → (ℕ → ℕ → ℕ → Reading Expression) → Type 0
Walks s read = (t at c : ℕ) (e : Expression) (n k pending m j : ℕ) → read t at c ≡ got e n k → Ahead s n k pending m j
    → Ahead s at c (suc pending) m j

run-ahead : (s : List ℕ) (read : ℕ → ℕ → ℕ → Reading Expression) → Walks s read → (ts : List ℕ) (at c : ℕ) {es : List Expression}
    {n k pending m j : ℕ} → read_each read ts at c ≡ got es n k → Ahead s n k pending m j → Ahead s at c (length ts + pending) m j
unfolding read_each
run-ahead s read walks [] at c {es} {n} {k} r a =
    let next : n ≡ at = cc in
    let count : k ≡ c = cc in
    rw (zero-add, ← next, ← count) a
run-ahead s read walks (t ∷ ts) at c r a =
    let v = run-view read t ts at c r in
    rw suc-add (walks t at c v.head v.next v.count _ _ _ v.first (run-ahead s read walks ts v.next v.count v.rest a))

expression_ahead : (inputs wires s : List ℕ) (level : ℕ) → Walks s (read_expression inputs wires s level)
expression_ahead inputs wires s zero t at c e n k pending m j r a = absurd (no-level inputs wires s t at c r)
expression_ahead inputs wires s (suc l) t at c e n k pending m j r a =
    let v = expression_view inputs wires s l t at c r in
    let g = v.good in
    let kind = get_or s at 0 in
    let behind =
    run-ahead s (read_expression inputs wires s l) (expression_ahead inputs wires s l) (operands_of kind t) v.first v.before
    v.each a in
    one (record { kind = g.kind; ends = g.ends }) g.cells
    (rw (g.next, g.count, operands-counted t kind g.kind) at behind)

-- each expression ahead has a byte of the sheet
room : {s : List ℕ} {at c pending n k : ℕ} → Ahead s at c pending n k → at + pending ≤ n
room done = omega arith
room (one w l a) = omega (arith, room a)

inside : {s : List ℕ} {at c pending n k : ℕ} → Ahead s at c pending n k → at ≤ length s → n ≤ length s
inside done h = h
inside (one w l a) h = inside a w.ends

-- a step of the walk, where the code takes one from the count
pub record Step (s : List ℕ) (at c pending n k : ℕ) : Type 0 where
  pub whole : Whole s at
  pub cells : c + cells_of (get_or s at 0) ≤ 64
  pub fits : pending - 1 + count_of (get_or s at 0) ≤ length s
  pub rest : Ahead s (at + (1 + body_of (get_or s at 0))) (c + cells_of (get_or s at 0)) (pending - 1 + count_of (get_or s at 0)) n k

pub step : {s : List ℕ} {at c pending n k : ℕ} → 0 < pending → Ahead s at c pending n k → Step s at c pending n k
step more done = absurd (omega arith)
step {s} {at} {c} more (one {pending = left} w l a) =
    let kind = get_or s at 0 in
    let place : at + (1 + body_of kind) ≡ at + 1 + body_of kind = omega arith in
    let count : suc left - 1 + count_of kind ≡ count_of kind + left = omega arith in
    record { whole = w; cells = l; fits = omega (arith, room a, inside a w.ends); rest = rw (place, count) a }

-- the walk starts at the expression, and ends with none ahead
pub one-ahead : {s : List ℕ} {at c : ℕ} (p : Readable s at c) → Ahead s at c 1 p.next p.count
one-ahead {s} {at} {c} p =
    expression_ahead p.inputs p.wires s p.level p.asked at c p.tree p.next p.count 0 p.next p.count
    p.reads done

pub ended : {s : List ℕ} {at c pending n k : ℕ} → pending ≤ 0 → Ahead s at c pending n k
    → ◌≡◌ {A = Place} (record { at = at; cell = c }) (record { at = n; cell = k })
ended none done = refl
ended none (one w l a) = absurd (omega arith)
