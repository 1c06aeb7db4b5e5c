-- How the code's turns along a list go into the checks 18 and 19, and its answers into the outcome.
use Prim.Native.Nat.{ℕ, ◌+◌, ◌≤◌, ◌<◌}
use mathlib.Core.Path.{◌≡◌, sym, ap}
use mathlib.Core.Bool.{Bool, true, false, not, ◌||◌}
use mathlib.Core.List.{List}
use Rattle.std.specs.Prelude.{Ok}
use native.Mathlib.Numerals.{add-one}
use native.Mathlib.Omega.{arith}
use lib.Dec.{eqb, ltb}
use lib.ListN.{length, take}
use lib.Seq.{take-suc}
use borrow.Author.Tests.{eq-eqb, ne_eqb, lt-ltb, le-ltb, ltb-true, not-false}
use Rattle.sheet.specs.Outcomes.{result, refused_at, done_of, lowest, unless_length, unless_any}
use Rattle.sheet.specs.Sheets.{Sheet}
use Rattle.sheet.specs.Laws.Lowest.{lowest-first}
use Rattle.sheet.specs.declared.Refusal.TheVariants.{ScheduleLength, ScheduleEntry, ScheduleOrder}
use Rattle.sheet_expressions.specs.Map.{HoldsJust}
use Rattle.sheet_expressions.specs.Sets.{holds-none, holds_more, within-among}
use Rattle.wires.specs.Sets.{member, TestsWithin}
use Rattle.sheet.specs.Lists.{among}
use Rattle.sheet.specs.Laws.Lists.{neither}
use Rattle.kernel.specs.Instants.{reads_at}
use Rattle.kernel.specs.Schedules.{entry_at, not_new, too_early, schedule_of}

-- the set holds just the entries before a position
pub record Holds (list : List ℕ) (p bits : ℕ) : Type 0 where
  pub just : HoldsJust bits (take p list)

module _ (list : List ℕ) where
  pub none_named : {bits : ℕ} → ((w : ℕ) → member bits w ≡ false) → Holds list 0 bits
  none_named empty = record { just = holds-none empty }

  pub one-more-named : {p bits more : ℕ} → p < length list → Holds list p bits
      → ((w : ℕ) → member more w ≡ (member bits w || eqb w (entry_at list p))) → Holds list (p + 1) more
  one-more-named {p} inside holds added =
      record { just = rw (add-one, take-suc list p 0 inside) (holds_more (entry_at list p) holds.just added) }

  -- check 18 at a position
  pub outside : (n p : ℕ) → n ≤ entry_at list p → not_new list n p ≡ true
  unfolding not_new
  outside n p h = rw (le-ltb (entry_at list p) n h)

  pub named : (n p : ℕ) {bits : ℕ} → entry_at list p < n → Holds list p bits → not_new list n p ≡ member bits (entry_at list p)
  unfolding not_new
  named n p h holds = rw (lt-ltb (entry_at list p) n h) (sym (holds.just.same (entry_at list p)))

  -- where it refuses none, all entries are wires
  pub all-wires : (n : ℕ) → n ≤ lowest (not_new list n) n → (p : ℕ) → p < n → entry_at list p < n
  unfolding not_new
  all-wires n none p h =
      let new = lowest-first (not_new list n) n p (omega arith) in
      let (below, _) = neither (not (ltb (entry_at list p) n)) (among (entry_at list p) (take p list)) new in
      ltb-true _ _ (not-false (ltb (entry_at list p) n) below)

  -- check 19 at a position, by the set of the wires that its wire reads
  pub early : (reads_of : ℕ → List ℕ) (p : ℕ) {bits read : ℕ} {answer : Bool} → Holds list p bits
      → HoldsJust read (reads_of (entry_at list p)) → TestsWithin read bits answer → too_early list reads_of p ≡ not answer
  unfolding too_early
  early reads_of p {answer = answer} holds reads test = ap not (within-among answer reads holds.just test)

-- the code's answers, by the count of the wires
module _ (sheet : Sheet) (list : List ℕ) (wires : ℕ) (are : length sheet.expressions ≡ wires) where
  abbrev reads_of : ℕ → List ℕ
  reads_of = reads_at sheet.expressions

  outcome_is : schedule_of sheet list ≡ unless_length ScheduleLength (length list) wires
      (unless_any ScheduleEntry (not_new list wires) wires (unless_any ScheduleOrder (too_early list reads_of) wires (result list)))
  unfolding schedule_of
  outcome_is = rw are

  pub refused_17 : (length list ≡ wires → ⊥) → refused_at ScheduleLength 0 ≡ done_of (schedule_of sheet list)
  refused_17 other = rw (outcome_is, ne_eqb (length list) wires other)

  module _ (sized : length list ≡ wires) {entry : ℕ} (first : entry ≡ lowest (not_new list wires) wires) where
    pub refused_18 : entry < wires → refused_at ScheduleEntry entry ≡ done_of (schedule_of sheet list)
    refused_18 below = rw (outcome_is, eq-eqb (length list) wires sized, ← first, lt-ltb entry wires below)

    module _ (none : wires ≤ entry) {early : ℕ} (low : early ≡ lowest (too_early list reads_of) wires) where
      pub refused_19 : early < wires → refused_at ScheduleOrder early ≡ done_of (schedule_of sheet list)
      refused_19 below =
          rw (outcome_is, eq-eqb (length list) wires sized, ← first, le-ltb entry wires none, ← low, lt-ltb early wires below)

      pub passed : wires ≤ early → Ok tt ≡ done_of (schedule_of sheet list)
      passed past = rw (outcome_is, eq-eqb (length list) wires sized, ← first, le-ltb entry wires none, ← low, le-ltb early wires past)
