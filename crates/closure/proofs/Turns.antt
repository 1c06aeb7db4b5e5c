-- One turn of the closure, row by row: the rows behind have let the wire in, and those ahead are as they were.
use Prim.Native.Nat.{ℕ, ◌+◌, ◌≤◌, ◌<◌}
use mathlib.Core.Path.{◌≡◌, sym, ap, ◌∙◌}
use mathlib.Core.Bool.{Bool, true, false, ◌||◌, ◌&&◌, or-false, and-false}
use mathlib.Core.List.{List}
use native.Mathlib.Numerals.{add-one}
use native.Mathlib.Omega.{arith}
use lib.ListN.{get_or}
use Rattle.wires.specs.Sets.{member}
use Rattle.wires.specs.Laws.{none_in}
use Rattle.sheet.specs.Laws.Lowest.{lowest-is}
use Rattle.closure.specs.Closures.{let_in, through, lowest_loop, Rows}

-- v rows have let in wire k, which leads to the set `own`
pub record Turned (before : List ℕ) (k own v : ℕ) (rows : List ℕ) : Type 0 where
  pub behind : (u : ℕ) → u < v → (w : ℕ)
      → member (get_or rows u 0) w ≡ (member (get_or before u 0) w || (member (get_or before u 0) k && member own w))
  pub ahead : (u : ℕ) → v ≤ u → get_or rows u 0 ≡ get_or before u 0

-- a wire that leads nowhere has nothing to add
pub no-turn : {n k own : ℕ} {rows : List ℕ} → k < n → own ≡ get_or rows k 0 → own ≡ 0
    → (test : ℕ → ℕ → Bool) → Rows test n rows → Rows (let_in test k) n rows
no-turn {k = k} inside is empty test relates =
    record {
      same = λ v w l.
          let nowhere : test k w ≡ false = sym (relates.same k w inside) ∙ (ap (λ x. member x w) (sym is ∙ empty) ∙ none_in w) in
          relates.same v w l ∙ sym (rw (nowhere, and-false, or-false));
    }

-- the turns one after the other
pub first_rows : {n : ℕ} {rows : List ℕ} (test : ℕ → ℕ → Bool) → Rows test n rows → Rows (through test 0) n rows
unfolding through
first_rows test relates = record { same = relates.same }

pub next-rows : (k : ℕ) {n : ℕ} {rows after : List ℕ} (test : ℕ → ℕ → Bool) → Rows (through test k) n rows
    → (Rows (through test k) n rows → Rows (let_in (through test k) k) n after) → Rows (through test (k + 1)) n after
unfolding through
next-rows k test relates turn = rw (add-one k) (record { same = (turn relates).same })

-- the lowest wire whose set in the closed rows has the wire itself
pub loop-found : (test : ℕ → ℕ → Bool) {n : ℕ} (w : ℕ) {rows : List ℕ} → Rows (through test n) n rows → w ≤ n
    → ((v : ℕ) → v < w → member (get_or rows v 0) v ≡ false) → (w < n → member (get_or rows w 0) w ≡ true) → w ≡ lowest_loop test n
unfolding lowest_loop
loop-found test {n} w closed within passed found =
    lowest-is (λ v. through test n v v) n w within (λ l. sym (closed.same w w l) ∙ found l)
    (λ v l. sym (closed.same v v (omega arith)) ∙ passed v l)
