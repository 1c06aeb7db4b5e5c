-- The walk past an expression that puts each cell it meets as it is at the start: what is still ahead of it.
use Prim.Native.Nat.{ℕ, zero, suc, ◌+◌, ◌-◌, ◌*◌, ◌≤◌, ◌<◌}
use mathlib.Core.Path.{◌≡◌, refl, sym, ap, ◌∙◌}
use mathlib.Core.List.{List, [], ◌∷◌, ◌++◌, append_assoc, append-nil}
use native.Mathlib.Omega.{arith}
use native.Mathlib.Nat.{zero-add, suc-add}
use lib.ListN.{length, get_or, length-append}
use lib.Seq.{sets}
use Rattle.numbers.specs.Laws.{sets-append}
use Rattle.sheet.specs.Data.{type_of_byte}
use Rattle.sheet.specs.Expressions.{Expression, cell_forms}
use Rattle.sheet.specs.Kinds.{body_of, cells_of, count_of, operands_of}
use Rattle.sheet.specs.Memory.{memory_bytes, start_memory}
use Rattle.sheet.specs.Readings.{Reading, got, read_each, body_at, read_expression, Whole}
use Rattle.sheet.specs.Sheets.{forms_of}
use Rattle.sheet.specs.Laws.Readings.{expression_view, run-view, no-level, operands-counted, run-extent, forms_of-kind}
use Rattle.sheet_walk.specs.Skips.{Readable}
use Rattle.sheet_cells.specs.Owned.{own_bytes}
use Rattle.sheet_cells.proofs.Starting.{start_bytes, start-append, own-start, own-length}
use Rattle.storing.specs.Advances.{Restarts}

-- with `pending` expressions ahead from `at` on and c cells before them, they end at n with k cells, which start as these bytes
pub data Ahead (s : List ℕ) : (at c pending n k : ℕ) → List ℕ → Type 0 where
  done : {n k : ℕ} → Ahead s n k 0 n k []
  one : {at c pending n k : ℕ} {bytes : List ℕ} → Whole s at → c + cells_of (get_or s at 0) ≤ 64 → (rest : List ℕ)
      → Ahead s (at + 1 + body_of (get_or s at 0)) (c + cells_of (get_or s at 0)) (count_of (get_or s at 0) + pending) n k rest
      → bytes ≡ own_bytes s at ++ rest → Ahead s at c (suc pending) n k bytes

-- an expression that reads, for `read`: ahead of what is pending, it is one more
abbrev Walks : List ℕ → (ℕ → ℕ → ℕ → Reading Expression) → Type 0
Walks s read = (t at c : ℕ) (e : Expression) (n k pending m j : ℕ) (bytes : List ℕ) → read t at c ≡ got e n k
    → Ahead s n k pending m j bytes → Ahead s at c (suc pending) m j (start_bytes (cell_forms e) ++ bytes)

run-ahead : (s : List ℕ) (read : ℕ → ℕ → ℕ → Reading Expression) → Walks s read → (ts : List ℕ) (at c : ℕ) {es : List Expression}
    {n k pending m j : ℕ} {bytes : List ℕ} → read_each read ts at c ≡ got es n k → Ahead s n k pending m j bytes
    → Ahead s at c (length ts + pending) m j (start_bytes (forms_of es) ++ bytes)
unfolding read_each forms_of memory_bytes start_memory
run-ahead s read walks [] at c {es} {n} {k} r a =
    let trees : es ≡ [] = cc in
    let next : n ≡ at = cc in
    let count : k ≡ c = cc in
    rw (zero-add, ← next, ← count, trees) a
run-ahead s read walks (t ∷ ts) at c r a =
    let v = run-view read t ts at c r in
    let behind = run-ahead s read walks ts v.next v.count v.rest a in
    rw (suc-add, v.trees, start-append, append_assoc) (walks t at c v.head v.next v.count _ _ _ _ v.first behind)

expression_ahead : (inputs wires s : List ℕ) (level : ℕ) → Walks s (read_expression inputs wires s level)
expression_ahead inputs wires s zero t at c e n k pending m j bytes r a = absurd (no-level inputs wires s t at c r)
expression_ahead inputs wires s (suc l) t at c e n k pending m j bytes r a =
    let v = expression_view inputs wires s l t at c r in
    let g = v.good in
    let kind = get_or s at 0 in
    let ts = operands_of kind t in
    let behind = run-ahead s (read_expression inputs wires s l) (expression_ahead inputs wires s l) ts v.first v.before v.each a in
    let sized = (run-extent inputs wires s l ts v.first v.before v.each).sized ∙ operands-counted t kind g.kind in
    let forms = forms_of-kind kind g.kind (type_of_byte t) (body_at s at) v.operands sized in
    let own = own-start inputs wires t _ (body_at s at) kind g.kind g.type in
    let starts : start_bytes (cell_forms e) ++ bytes ≡ own_bytes s at ++ (start_bytes (forms_of v.operands) ++ bytes) =
    ap (λ x. start_bytes (cell_forms x) ++ bytes) v.tree ∙ ap (λ x. start_bytes x ++ bytes) forms ∙ rw (start-append, own, append_assoc) in
    one (record { kind = g.kind; ends = g.ends }) g.cells _
    (rw (g.next, g.count, operands-counted t kind g.kind) at behind) starts

-- each expression ahead has a byte of the sheet, and each cell ahead five of the memory
bounds : {s : List ℕ} {at c pending n k : ℕ} {bytes : List ℕ} → Ahead s at c pending n k bytes
    → (at + pending ≤ n) × (5 * c + length bytes ≡ 5 * k)
bounds done = (omega arith, omega arith)
bounds {s} {at} (one w l rest a e) =
    let own = own-length s at w.kind in
    let both = simp length-append at (ap length e) in
    (omega (arith, (bounds a).0), omega (arith, (bounds a).1, own, both))

inside : {s : List ℕ} {at c pending n k : ℕ} {bytes : List ℕ} → Ahead s at c pending n k bytes → at ≤ length s → n ≤ length s
inside done h = h
inside (one w l rest a e) h = inside a w.ends

-- what is still ahead, put from cell c on, makes what the whole makes of the memory
pub record Left (s : List ℕ) (at c pending : ℕ) (memory : List ℕ) (n k : ℕ) (whole : List ℕ) : Type 0 where
  pub bytes : List ℕ
  pub ahead : Ahead s at c pending n k bytes
  pub makes : sets memory (5 * c) bytes ≡ whole

-- a step of the walk, where the code takes one from the count
pub record Step (s : List ℕ) (at c pending : ℕ) (memory : List ℕ) (n k : ℕ) (whole : List ℕ) : Type 0 where
  pub met : Whole s at
  pub cells : c + cells_of (get_or s at 0) ≤ 64
  pub fits : pending - 1 + count_of (get_or s at 0) ≤ length s
  pub room : 5 * c + length (own_bytes s at) ≤ 5 * k
  pub rest : Left s (at + (1 + body_of (get_or s at 0))) (c + cells_of (get_or s at 0)) (pending - 1 + count_of (get_or s at 0))
      (sets memory (5 * c) (own_bytes s at)) n k whole

pub step : {s : List ℕ} {at c pending : ℕ} {memory : List ℕ} {n k : ℕ} {whole : List ℕ} → 0 < pending
    → Left s at c pending memory n k whole → Step s at c pending memory n k whole
step {s} {memory = memory} {whole = whole} more left = go more left.ahead left.makes
  where
    go : {at c pending n k : ℕ} {bytes : List ℕ} → 0 < pending → Ahead s at c pending n k bytes → sets memory (5 * c) bytes ≡ whole
        → Step s at c pending memory n k whole
    go more done makes = absurd (omega arith)
    go {at} {c} more (one {pending = left} w l rest a e) makes =
        let kind = get_or s at 0 in
        let own = own-length s at w.kind in
        let both = simp length-append at (ap length e) in
        let place : at + (1 + body_of kind) ≡ at + 1 + body_of kind = omega arith in
        let count : suc left - 1 + count_of kind ≡ count_of kind + left = omega arith in
        let behind : 5 * (c + cells_of kind) ≡ 5 * c + length (own_bytes s at) = omega (arith, own) in
        record {
          met = w;
          cells = l;
          fits = omega (arith, (bounds a).0, inside a w.ends);
          room = omega (arith, own, (bounds a).1);
          rest = record {
            bytes = rest;
            ahead = rw (place, count) a;
            makes = rw behind (sym (sets-append (own_bytes s at) rest memory (5 * c)) ∙ rw (← e) makes);
          };
        }

-- the walk starts at the expression, and ends with none ahead
pub begun : {s : List ℕ} {at c : ℕ} (p : Readable s at c) (memory : List ℕ)
    → Left s at c 1 memory p.next p.count (sets memory (5 * c) (start_bytes (cell_forms p.tree)))
begun {s} {at} {c} p memory = record {
  bytes = start_bytes (cell_forms p.tree);
  ahead = rw append-nil at (expression_ahead p.inputs p.wires s p.level p.asked at c p.tree p.next p.count 0
      p.next p.count []
      p.reads done);
  makes = refl;
}

none_ahead : {s : List ℕ} {at c pending n k : ℕ} {bytes : List ℕ} → pending ≤ 0 → Ahead s at c pending n k bytes
    → (at ≡ n) × (c ≡ k) × (bytes ≡ [])
none_ahead none done = (refl, refl, refl)
none_ahead none (one w l rest a e) = absurd (omega arith)

pub ended : {s : List ℕ} {from first : ℕ} (p : Readable s from first) {at c pending : ℕ} {start memory : List ℕ} → pending ≤ 0
    → Left s at c pending memory p.next p.count (sets start (5 * first) (start_bytes (cell_forms p.tree)))
    → Restarts p start (record { at = at; cell = c }) memory
ended p none left =
    let (next, count, nothing) = none_ahead none left.ahead in
    record { answer = rw (next, count); holds = rw nothing at left.makes }
