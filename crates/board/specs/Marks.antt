-- Marks, a bit for each sheet in one byte, the lowest for the first: a set of sheets, as `wires` has sets of wires. And the first due sheet in
-- ring order.
use Rattle.std.specs.Prelude.{ℕ, zero, suc, ◌+◌, ◌-◌, ◌*◌, ◌%◌, Bool, cond, ltb}
use Rattle.wires.specs.Sets.{member}
use Rattle.sheet.specs.Outcomes.{lowest}

-- whether the sheet with number k is marked
abbrev pub marked : (marks k : ℕ) → Bool
marked = member

-- the marks of those of n sheets that pass a test; marks above the count are dropped
unfoldable pub marks_of : (ℕ → Bool) → (n : ℕ) → ℕ
marks_of test zero = 0
marks_of test (suc n) = cond (test zero) 1 0 + 2 * marks_of (λ k. test (suc k)) n

-- the sheet served last of n: a number that names no sheet counts as the last one's
abbrev pub served_last : (n number : ℕ) → ℕ
served_last n number = cond (ltb number n) number (n - 1)

-- the i-th sheet after the one served last, from 0; that one itself comes last
abbrev pub ring_at : (n number i : ℕ) → ℕ
ring_at n number i = (served_last n number + 1 + i) % n

-- the place in the ring of the first sheet that is due; n where none is
abbrev pub place_of_due : (n : ℕ) → (ℕ → Bool) → (number : ℕ) → ℕ
place_of_due n due number = lowest (λ i. due (ring_at n number i)) n

-- the first due sheet after the one served last, in ring order; n where none is due
unfoldable pub first_due : (n : ℕ) → (ℕ → Bool) → (number : ℕ) → ℕ
first_due n due number =
    cond (ltb (place_of_due n due number) n) (ring_at n number (place_of_due n due number)) n
