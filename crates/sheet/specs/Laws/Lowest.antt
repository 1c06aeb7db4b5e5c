-- The lowest number that passes a test.
use Rattle.std.specs.Prelude.{◌≡◌, refl, ℕ, zero, suc, ◌≤◌, ◌<◌, ltb, Bool, true, false, cond}
use Rattle.std.proofs.Common.{sym, ap, ◌∙◌, zero-le, arith, ltb-false, le-ltb, true≢false}
use Rattle.sheet.specs.Outcomes.{lowest}

pub lowest-bound : (test : ℕ → Bool) (bound : ℕ) → lowest test bound ≤ bound
unfolding lowest
lowest-bound test zero = zero-le
lowest-bound test (suc bound) = go (test zero) (lowest-bound (λ k. test (suc k)) bound)
  where
    go : (t : Bool) → lowest (λ k. test (suc k)) bound ≤ bound → cond t zero (suc (lowest (λ k. test (suc k)) bound)) ≤ suc bound
    go true h = zero-le
    go false h = omega arith

pub lowest-passes : (test : ℕ → Bool) (bound j : ℕ) → j ≤ bound → test j ≡ true → test (lowest test bound) ≡ true
unfolding lowest
lowest-passes test zero j l p = let e : j ≡ 0 = omega arith in rw e at p
lowest-passes test (suc bound) j l p = go (test zero) refl (lowest-passes (λ k. test (suc k)) bound) j l p
  where
    go : (t : Bool) → test zero ≡ t
        → ((j : ℕ) → j ≤ bound → test (suc j) ≡ true → test (suc (lowest (λ k. test (suc k)) bound)) ≡ true)
        → (j : ℕ) → j ≤ suc bound → test j ≡ true → test (cond t zero (suc (lowest (λ k. test (suc k)) bound))) ≡ true
    go true e later j l p = e
    go false e later zero l p = cc
    go false e later (suc j) l p = later j (omega arith) p

pub lowest-first : (test : ℕ → Bool) (bound j : ℕ) → j < lowest test bound → test j ≡ false
unfolding lowest
lowest-first test zero j l = absurd (omega arith)
lowest-first test (suc bound) j l = go (test zero) refl (lowest-first (λ k. test (suc k)) bound) j l
  where
    go : (t : Bool) → test zero ≡ t → ((j : ℕ) → j < lowest (λ k. test (suc k)) bound → test (suc j) ≡ false)
        → (j : ℕ) → j < cond t zero (suc (lowest (λ k. test (suc k)) bound)) → test j ≡ false
    go true e later j l = absurd (omega arith)
    go false e later zero l = e
    go false e later (suc j) l = later j (omega arith)

-- no number below the bound passes where the lowest is not below it
pub lowest-none : (test : ℕ → Bool) (bound : ℕ) → ltb (lowest test bound) bound ≡ false → (j : ℕ) → j < bound → test j ≡ false
lowest-none test bound e j l = lowest-first test bound j (omega (arith, ltb-false (lowest test bound) bound e))

-- and the lowest is not below the bound where no number below it passes
pub none-lowest : (test : ℕ → Bool) (bound : ℕ) → ((j : ℕ) → j < bound → test j ≡ false) → ltb (lowest test bound) bound ≡ false
unfolding lowest
none-lowest test zero h = le-ltb 0 0 zero-le
none-lowest test (suc bound) h =
    let low = lowest (λ k. test (suc k)) bound in
    let past = ltb-false low bound (none-lowest (λ k. test (suc k)) bound (λ j l. h (suc j) (omega arith))) in
    rw (h zero (omega arith)) (le-ltb (suc low) (suc bound) (omega arith))

-- the lowest is below the bound where some number below it passes
pub lowest-below : (test : ℕ → Bool) (bound j : ℕ) → j < bound → test j ≡ true → lowest test bound < bound
unfolding lowest
lowest-below test zero j l p = absurd (omega arith)
lowest-below test (suc bound) j l p = go (test zero) refl (lowest-below (λ k. test (suc k)) bound) j l p
  where
    go : (t : Bool) → test zero ≡ t
        → ((j : ℕ) → j < bound → test (suc j) ≡ true → lowest (λ k. test (suc k)) bound < bound)
        → (j : ℕ) → j < suc bound → test j ≡ true → cond t zero (suc (lowest (λ k. test (suc k)) bound)) < suc bound
    go true e later j l p = omega arith
    go false e later zero l p = absurd (true≢false (sym p ∙ e))
    go false e later (suc j) l p = omega (arith, later j (omega arith) p)

-- the lowest passes where it is below the bound
pub lowest-found : (test : ℕ → Bool) (bound : ℕ) → lowest test bound < bound → test (lowest test bound) ≡ true
unfolding lowest
lowest-found test zero l = absurd (omega arith)
lowest-found test (suc bound) l = go (test zero) refl (lowest-found (λ k. test (suc k)) bound) l
  where
    go : (t : Bool) → test zero ≡ t
        → (lowest (λ k. test (suc k)) bound < bound → test (suc (lowest (λ k. test (suc k)) bound)) ≡ true)
        → cond t zero (suc (lowest (λ k. test (suc k)) bound)) < suc bound
        → test (cond t zero (suc (lowest (λ k. test (suc k)) bound))) ≡ true
    go true e later l = e
    go false e later l = later (omega arith)

-- what a search from below finds is the lowest: it passes, unless it is the bound, and no smaller number does
pub lowest-is : (test : ℕ → Bool) (bound r : ℕ) → r ≤ bound → (r < bound → test r ≡ true) → ((j : ℕ) → j < r → test j ≡ false)
    → r ≡ lowest test bound
unfolding lowest
lowest-is test zero r l found first = omega arith
lowest-is test (suc bound) zero l found first = rw (found (omega arith))
lowest-is test (suc bound) (suc r) l found first =
    rw (first zero (omega arith))
    (ap suc (lowest-is (λ k. test (suc k)) bound r (omega arith) (λ h. found (omega arith)) (λ j h. first (suc j) (omega arith))))
