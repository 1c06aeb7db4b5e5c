-- The ring of sheets without a division, and the first due sheet in it as the code looks for it.
use Prim.Native.Nat.{ℕ, ◌+◌, ◌-◌, ◌%◌, ◌≤◌, ◌<◌}
use mathlib.Core.Path.{◌≡◌, sym, ap, ◌∙◌}
use mathlib.Core.Bool.{Bool, true, false}
use native.Mathlib.Nat.{mod-eq_of_lt, mod-eq-sub-mod}
use native.Mathlib.Omega.{arith}
use borrow.Author.Tests.{lt-ltb, le-ltb}
use Rattle.wires.specs.Sets.{member}
use Rattle.sheet.specs.Laws.Lowest.{lowest-is, none-lowest}
use Rattle.board.specs.Marks.{served_last, ring_at, first_due}
use Rattle.board_marks.specs.Sets.{MarksJust}

-- a place in the ring, before it comes around and behind
pub onward : (n place : ℕ) → place < n → place ≡ place % n
onward n place l = sym (mod-eq_of_lt l)

pub around : (n place : ℕ) → n ≤ place → place - n < n → place - n ≡ place % n
around n place past l = sym (mod-eq-sub-mod past ∙ mod-eq_of_lt l)

-- the sheet served last
pub names-sheet : (n number : ℕ) → number < n → number ≡ served_last n number
names-sheet n number l = rw (lt-ltb number n l)

pub names-none : (n number : ℕ) → n ≤ number → n - 1 ≡ served_last n number
names-none n number l = rw (le-ltb number n l)

module _ {bits n : ℕ} {due : ℕ → Bool} (number : ℕ) (just : MarksJust bits n due) where
  -- the test at a place in the ring
  pub due-at : (last i sheet : ℕ) {r : Bool} → last ≡ served_last n number → sheet ≡ (last + 1 + i) % n → sheet < n
      → r ≡ member bits sheet → due (ring_at n number i) ≡ r
  due-at last i sheet is at l tested =
      let same : sheet ≡ ring_at n number i = at ∙ ap (λ m. (m + 1 + i) % n) is in
      let here : member bits sheet ≡ due sheet = just.each sheet ∙ rw (lt-ltb sheet n l) in
      ap due (sym same) ∙ sym here ∙ sym tested

  -- the first due sheet, where the places before it in the ring are not due
  pub first_found : (last i sheet : ℕ) → last ≡ served_last n number → sheet ≡ (last + 1 + i) % n → i < n
      → due (ring_at n number i) ≡ true → ((j : ℕ) → j < i → due (ring_at n number j) ≡ false) → sheet ≡ first_due n due number
  unfolding first_due
  first_found last i sheet is at l passes before =
      rw (← lowest-is (λ j. due (ring_at n number j)) n i (omega arith) (λ _. passes) before, lt-ltb i n l)
      (at ∙ ap (λ m. (m + 1 + i) % n) is)

  pub none_found : (i : ℕ) → n ≤ i → ((j : ℕ) → j < i → due (ring_at n number j) ≡ false) → n ≡ first_due n due number
  unfolding first_due
  none_found i past before =
      rw (none-lowest (λ j. due (ring_at n number j)) n (λ j l. before j (omega arith)))
