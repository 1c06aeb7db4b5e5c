-- What holds of the digits: below ten there is one, a larger number has those of its tenth part and one more, and 32 bits have at most ten.
use Rattle.std.specs.Prelude.{ℕ, zero, suc, ◌+◌, ◌/◌, ◌%◌, ◌^◌, ◌≤◌, ◌<◌, ◌≡◌, refl, Bool, true, false, [], ◌∷◌, ◌++◌, ltb, length}
use Rattle.std.proofs.Common.{arith, length-append, ltb-true, ltb-false, lt-ltb, le-ltb}
use Rattle.text.specs.Digits.{spelled, digits}

-- a number below ten is one digit
pub digits-one : (n : ℕ) → n < 10 → digits n ≡ (48 + n) ∷ []
unfolding digits spelled
digits-one n h = rw (lt-ltb n 10 h, spelled)

-- steps beyond the number do not matter
more-steps : (j k n : ℕ) → n < j → n < k → spelled j n ≡ spelled k n
unfolding spelled
more-steps zero k n g h = absurd (omega arith)
more-steps (suc j) zero n g h = absurd (omega arith)
more-steps (suc j) (suc k) n g h = go (ltb n 10) refl (λ l. more-steps j k (n / 10) (omega arith) (omega arith))
  where
    go : (t : Bool) → ltb n 10 ≡ t → (10 ≤ n → spelled j (n / 10) ≡ spelled k (n / 10))
        → spelled (suc j) n ≡ spelled (suc k) n
    go true e f = rw (e, spelled)
    go false e f = rw (e, spelled) (rw (f (ltb-false n 10 e)))

-- a larger one is the digits of its tenth part, and one more
pub digits_more : (n : ℕ) → 10 ≤ n → digits n ≡ digits (n / 10) ++ ((48 + n % 10) ∷ [])
unfolding digits spelled
digits_more n h = rw (le-ltb n 10 h, spelled) (rw (more-steps n (suc (n / 10)) (n / 10) (omega arith) (omega arith)))

-- a number below a power of ten has no more digits than the power says
pub digits-below : (k n : ℕ) → n < 10 ^ suc k → length (digits n) ≤ suc k
digits-below zero n h = simp (digits-one n (omega arith)) (omega arith)
digits-below (suc k) n h = go (ltb n 10) refl (digits-below k (n / 10) (omega arith))
  where
    go : (t : Bool) → ltb n 10 ≡ t → length (digits (n / 10)) ≤ suc k → length (digits n) ≤ suc (suc k)
    go true e f = simp (digits-one n (ltb-true n 10 e)) (omega arith)
    go false e f = simp (digits_more n (ltb-false n 10 e), length-append) (omega arith)

-- a number of 32 bits has at most ten digits
pub digits_ten : (n : ℕ) → n < 4294967296 → length (digits n) ≤ 10
digits_ten n h = digits-below 9 n (omega arith)
