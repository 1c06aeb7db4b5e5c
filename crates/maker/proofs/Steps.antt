-- How the code's tests and turns go into the definition of the made list.
use Prim.Native.Nat.{ℕ, zero, suc, ◌+◌, ◌≤◌, ◌<◌}
use mathlib.Core.Path.{◌≡◌, refl, sym, ap, ◌∙◌}
use mathlib.Core.Bool.{Bool, true, false, not, ◌&&◌}
use mathlib.Core.List.{List, [], ◌∷◌, ◌++◌}
use lib.Dec.{ltb, leb}
use native.Mathlib.Nat.{le_antisymm, lt_of_not-le}
use native.Mathlib.Numerals.{add-one}
use native.Mathlib.Omega.{arith}
use lib.ListN.{length, get_or, take, set, replicate}
use lib.Seq.{take-suc-set}
use borrow.Author.Count.{below_more}
use borrow.Author.Tests.{eq-eqb, ne_eqb, le-leb, leb-true, lt-ltb, ltb-true, not-true}
use Rattle.wires.specs.Sets.{member}
use Rattle.wires.specs.Laws.{none_in}
use Rattle.sheet.specs.Lists.{among, all_among}
use Rattle.sheet.specs.Outcomes.{result, lowest, unless_length, unless_any, refused_at}
use Rattle.sheet.specs.Sheets.{Sheet}
use Rattle.sheet.specs.Typing.{WellTyped}
use Rattle.sheet.specs.Laws.Lists.{never, both, among-each}
use Rattle.sheet.specs.Laws.Lowest.{lowest-first}
use Rattle.sheet.specs.declared.Refusal.TheVariants.{ScheduleLength, NoSchedule}
use Rattle.sheet_expressions.specs.Map.{HoldsJust, EachHoldsJust}
use Rattle.sheet_expressions.specs.Sets.{holds-none}
use Rattle.closure.specs.Closures.{Rows, through, lowest_loop}
use Rattle.kernel.specs.Instants.{wire_count}
use Rattle.kernel.specs.Depths.{Depths, depth_of, greatest_depth}
use Rattle.kernel.proofs.Laws.Depths.{depths_are, deepest-along}
use Rattle.maker.specs.Reaching.{reads_of, reads, reaches_itself}
use Rattle.maker.specs.Making.{ready, placed_by, made_list, schedule_for, made_of}
use Rattle.maker.specs.Placing.{Placed, Makes}
use Rattle.maker.specs.Queue.{Queue}
use Rattle.maker.proofs.Laws.Making.{placed-length, put_at, Filled}
use Rattle.maker.proofs.Laws.Schedules.{made_schedule, filled_none, stuck-low}
use Rattle.maker.proofs.Noting.{Noted, none-noted}
use Rattle.std.specs.Prelude.{Ok}

-- the wires from w on and below n, as a test
unfoldable pub between : (w n x : ℕ) → Bool
between w n x = leb w x && ltb x n

pub in_between : (w n x : ℕ) → w ≤ x → x < n → between w n x ≡ true
unfolding between
in_between w n x low high = rw (le-leb w x low, lt-ltb x n high)

pub bounds-between : (w n x : ℕ) → between w n x ≡ true → (w ≤ x) × (x < n)
unfolding between
bounds-between w n x i = let (low, high) = both (leb w x) (ltb x n) i in (leb-true w x low, ltb-true x n high)

pub above : {w x : ℕ} → w ≤ x → (x ≡ w → ⊥) → w + 1 ≤ x
above {w} {x} low other = let less : w < x = lt_of_not-le (λ (l : x ≤ w). other (le_antisymm l low)) in omega arith

-- what a wire reads and is not placed: nothing, or the lowest
module _ {list : List ℕ} {placed read : ℕ} (missing : ℕ) (reads : List ℕ) (just : HoldsJust read reads) (holds : HoldsJust placed list)
    (minus : (k : ℕ) → member missing k ≡ (member read k && not (member placed k))) where
  pub nothing-missing : ((k : ℕ) → member missing k ≡ false) → all_among reads list ≡ true
  nothing-missing none = among-each reads list (λ k i. go k (member placed k) refl (just.same k ∙ i))
    where
      go : (k : ℕ) (t : Bool) → member placed k ≡ t → member read k ≡ true → among k list ≡ true
      go k true e i = sym (holds.same k) ∙ e
      go k false e i = let there : member missing k ≡ true = rw (minus k, i, e) in never (cc (none k, there))

  pub something_missing : (k : ℕ) → member missing k ≡ true → (among k list ≡ false) × (among k reads ≡ true)
  something_missing k i =
      let (r, free) = both (member read k) (not (member placed k)) (sym (minus k) ∙ i) in
      (sym (holds.same k) ∙ not-true (member placed k) free, sym (just.same k) ∙ r)

-- p positions are filled as the definition says, one set holds just their wires, whose depths are noted, and the others are in the queue
pub record Turn (reads_of : ℕ → List ℕ) (n : ℕ) (order : List ℕ) (placed ready : ℕ) (waiting depths : List ℕ) (greatest p : ℕ)
    : Type 0 where
  pub list : take p order ≡ placed_by reads_of n p
  pub holds : HoldsJust placed (placed_by reads_of n p)
  pub filled : Filled reads_of n p
  pub queue : Queue reads_of n (placed_by reads_of n p) (λ x. ⊥) ready waiting
  pub noting : (depth : ℕ → ℕ) → Depths reads_of n depth → Noted depth (placed_by reads_of n p) depths greatest

pub ready-parts : (reads_of : ℕ → List ℕ) (placed : List ℕ) (w : ℕ) → ready reads_of placed w ≡ true
    → (among w placed ≡ false) × (all_among (reads_of w) placed ≡ true)
unfolding ready
ready-parts reads_of placed w e =
    let (new, all) = both (not (among w placed)) (all_among (reads_of w) placed) e in (not-true (among w placed) new, all)

-- at first nobody waits
pub nobody-waits : (m v x : ℕ) → member (get_or (replicate m 0) v 0) x ≡ true → ⊥
nobody-waits zero v x i = never (cc (none_in x, i))
nobody-waits (suc m) zero x i = never (cc (none_in x, i))
nobody-waits (suc m) (suc v) x i = nobody-waits m v x i

module _ (reads_of : ℕ → List ℕ) (n : ℕ) where
  pub first-turn : (order depths : List ℕ) {placed ready : ℕ} {waiting : List ℕ} → ((w : ℕ) → member placed w ≡ false)
      → Queue reads_of n [] (λ x. ⊥) ready waiting → Turn reads_of n order placed ready waiting depths 0 0
  unfolding placed_by
  first-turn order depths empty queue =
      record {
        list = refl;
        holds = holds-none empty;
        filled = λ q l. absurd (omega arith);
        queue = queue;
        noting = λ depth is. none-noted depth depths;
      }

  pub next-turn : {order : List ℕ} {placed ready more queued greatest greater p : ℕ} {waiting after depths deeper : List ℕ} (wire : ℕ)
      → Turn reads_of n order placed ready waiting depths greatest p → wire ≡ put_at reads_of n p → wire < n → p < length order
      → HoldsJust more (placed_by reads_of n p ++ (wire ∷ []))
      → Queue reads_of n (placed_by reads_of n p ++ (wire ∷ [])) (λ x. ⊥) queued after
      → ((depth : ℕ → ℕ) → Depths reads_of n depth → Noted depth (placed_by reads_of n p ++ (wire ∷ [])) deeper greater)
      → Turn reads_of n (set order p wire) more queued after deeper greater (p + 1)
  unfolding placed_by
  next-turn {order} {p = p} wire turn is is_wire room holds queue noting =
      rw add-one
      (record {
        list = take-suc-set order p wire room ∙ rw (turn.list, is);
        holds = rw (← is) holds;
        filled = rw (← add-one) (below_more (λ q. put_at reads_of n q < n) p turn.filled (rw (← is) is_wire));
        queue = rw (← is) queue;
        noting = rw (← is) noting;
      })

  -- after the last turn each wire has its position, or no wire is ready
  pub last_turn : {order waiting depths : List ℕ} {placed more greatest p : ℕ}
      → Turn reads_of n order placed more waiting depths greatest p → p ≤ n
      → (p < n → lowest (ready reads_of (placed_by reads_of n p)) n ≡ n) → Placed reads_of n order p greatest
  last_turn turn few ended =
      record {
        few = few;
        list = turn.list;
        filled = turn.filled;
        ended = ended;
        greatest_is = λ depth is. (turn.noting depth is).greatest_is;
      }

-- the sets of the map hold the relation that is closed
pub held_rows : (sheet : Sheet) {rows : List ℕ} {n : ℕ} → EachHoldsJust rows n (reads_of sheet) → Rows (reads sheet) n rows
held_rows sheet held = record { same = λ v w l. (held v l).same w }

-- The answers of the code, of a sheet with so many wires.
module _ (sheet : Sheet) (lent : List ℕ) (wires : ℕ) (are : wire_count sheet ≡ wires) where
  made-is : made_of sheet lent ≡ unless_length ScheduleLength (length lent) wires
      (unless_any NoSchedule (reaches_itself sheet) wires (result (schedule_for sheet)))
  unfolding made_of
  made-is = rw are

  same-loop : lowest_loop (reads sheet) wires ≡ lowest (reaches_itself sheet) wires
  unfolding lowest_loop reaches_itself
  same-loop = ap (λ n. lowest (λ w. through (reads sheet) n w w) wires) (sym are)

  pub refused_17 : (length lent ≡ wires → ⊥) → Makes sheet lent (refused_at ScheduleLength 0) lent
  refused_17 other = let e = ne_eqb (length lent) wires other in record { answers = rw (made-is, e); leaves = rw (made-is, e) }

  module _ (sized : length lent ≡ wires) {order : List ℕ} {r depth : ℕ} (placed : Placed (reads_of sheet) wires order r depth) where
    -- each wire was placed, so that the depth is the greatest
    deep : r ≡ wires → Filled (reads_of sheet) (wire_count sheet) (wire_count sheet) → depth ≡ greatest_depth sheet
    unfolding made_list
    deep all full =
        let schedule = made_schedule sheet full in
        let greatest = placed.greatest_is (depth_of sheet) (rw are at (depths_are sheet (made_list sheet) schedule)) in
        (rw (all, ← are) at greatest) ∙ deepest-along sheet (made_list sheet) schedule

    pub made : r ≡ wires → Makes sheet lent (Ok depth) (take wires order)
    unfolding made_list
    made all =
        let full = rw (all, ← are) at placed.filled in
        let none = rw are at (filled_none sheet full) in
        let e = eq-eqb (length lent) wires sized in
        let list = rw all at placed.list in
        record { answers = rw (made-is, e, none, deep all full); leaves = rw (made-is, e, none) (list ∙ rw are) }

    -- some wire was left out
    left_out : WellTyped sheet → r < wires → lowest (reaches_itself sheet) wires < wires
    left_out typed few =
        let less : r < wire_count sheet = rw are few in
        let stuck = rw (← are) at (placed.ended few) in
        let counted = placed-length (reads_of sheet) (wire_count sheet) r in
        rw are at
        (stuck-low sheet typed (placed_by (reads_of sheet) (wire_count sheet) r) (omega arith)
        (λ w l. lowest-first (ready (reads_of sheet) (placed_by (reads_of sheet) (wire_count sheet) r)) (wire_count sheet) w (omega arith)))

    pub refused_21 : WellTyped sheet → r < wires → Makes sheet lent (refused_at NoSchedule (lowest_loop (reads sheet) wires)) lent
    refused_21 typed few =
        let e = eq-eqb (length lent) wires sized in
        let low = lt-ltb (lowest (reaches_itself sheet) wires) wires (left_out typed few) in
        record { answers = rw (made-is, e, low, same-loop); leaves = rw (made-is, e, low) }
