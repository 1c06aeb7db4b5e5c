-- A set of wire numbers below 64, held as the bits of one number.
use Rattle.std.specs.Prelude.{ℕ, zero, suc, ◌+◌, ◌/◌, ◌%◌, ◌^◌, ◌≤◌, ◌<◌, ◌≡◌, Bool, true, false, cond, not, ◌&&◌, eqb, Option, MatchOption}

-- wire k is in the set whose bits are n
unfoldable pub member : ℕ → ℕ → Bool
member n k = eqb (n / 2 ^ k % 2) 1

-- r says whether every wire of the set whose bits are n is in the one whose bits are m
pub record TestsWithin (n m : ℕ) (r : Bool) : Type 0 where
  pub all : r ≡ true → (k : ℕ) → member n k ≡ true → member m k ≡ true
  pub only : ((k : ℕ) → member n k ≡ true → member m k ≡ true) → r ≡ true

-- how many numbers below k pass a test
unfoldable pub tally : (ℕ → Bool) → ℕ → ℕ
tally f zero = zero
tally f (suc k) = cond (f k) 1 0 + tally f k

-- r is the lowest number in the set, whose numbers are below k, or k where the set is empty
pub record LowestPresent (f : ℕ → Bool) (k r : ℕ) : Type 0 where
  pub within : r ≤ k
  pub below : (j : ℕ) → j < r → f j ≡ false
  pub present : r < k → f r ≡ true
  pub empty : k ≤ r → (j : ℕ) → f j ≡ false

-- r is one more than the highest number in the set, whose numbers are below k, or 0 where the set is empty
pub record EndsAt (f : ℕ → Bool) (k r : ℕ) : Type 0 where
  pub within : r ≤ k
  pub above : (j : ℕ) → r ≤ j → f j ≡ false
  pub highest : (j : ℕ) → r ≡ suc j → f j ≡ true

-- w is the lowest wire of the set whose bits are n, and m are the bits of the others
pub record LowestTaken (n w m : ℕ) : Type 0 where
  pub below : w < 64
  pub present : member n w ≡ true
  pub lower : (j : ℕ) → j < w → member n j ≡ false
  pub others : (k : ℕ) → member m k ≡ (member n k && not (eqb k w))

-- what is taken from the set whose bits are n is its lowest wire, or nothing where it is empty; m are the bits of what is left
abbrev pub TakesLowest : ℕ → Option ℕ → ℕ → Type 0
TakesLowest n taken m = MatchOption taken ((j : ℕ) → member n j ≡ false) (λ w. LowestTaken n w m)

-- w is the highest wire of the set whose bits are n, and m are the bits of the others
pub record HighestTaken (n w m : ℕ) : Type 0 where
  pub below : w < 64
  pub present : member n w ≡ true
  pub higher : (j : ℕ) → w < j → member n j ≡ false
  pub others : (k : ℕ) → member m k ≡ (member n k && not (eqb k w))

-- the same from the other end
abbrev pub TakesHighest : ℕ → Option ℕ → ℕ → Type 0
TakesHighest n taken m = MatchOption taken ((j : ℕ) → member n j ≡ false) (λ w. HighestTaken n w m)
