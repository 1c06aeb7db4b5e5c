-- What is put for a number is its digits, after its sign, and what is put for an output row is its numbers.
use Prim.Native.Nat.{ℕ, ◌+◌, ◌-◌, ◌/◌, ◌%◌, ◌≤◌, ◌<◌}
use mathlib.Core.Path.{◌≡◌, refl}
use mathlib.Core.Bool.{true, false, true≢false}
use mathlib.Core.List.{List, [], ◌∷◌, ◌++◌}
use native.Mathlib.Omega.{arith}
use lib.IntN.{ℤ, pos, negsuc, nat_abs}
use lib.ListN.{length, take, drop, length-drop}
use lib.Seq.{take_all}
use lib.Signed.{lt_z}
use mir.Syntax.{w32}
use mir.Val.{SFits, to_z, of_z}
use mir.Facts.{to_z-of_z}
use borrow.Author.Tests.{ltb-true}
use Rattle.numbers.specs.Words.{word_at}
use Rattle.text.specs.Buffers.{Puts}
use Rattle.text.specs.Digits.{digits, decimal}
use Rattle.text.specs.Pieces.{spaced_all, numbers_of}
use Rattle.text.proofs.Laws.{digits-one, digits_more, digits_ten}
use Rattle.text.proofs.Putting.{then}

-- a number below ten
pub only : {before after : List ℕ} {at past : ℕ} (n : ℕ) → n < 10 → Puts before at ((48 + n) ∷ []) after past
    → Puts before at (digits n) after past × (past ≤ at + 10)
only n h p = (rw (digits-one n h) p, omega (arith, p.passed))

-- the digits of a tenth part, and then the last one
pub last : {before middle after : List ℕ} {at next past : ℕ} (n : ℕ) → 10 ≤ n → n < 4294967296
    → Puts before at (digits (n / 10)) middle next → Puts middle next ((48 + n % 10) ∷ []) after past
    → Puts before at (digits n) after past × (past ≤ at + 10)
last {before} {after = after} {at} {past = past} n h g p q =
    let all : Puts before at (digits n) after past = rw (digits_more n h) (then p q) in
    (all, omega (arith, all.passed, digits_ten n g))

-- a number below zero: a sign, and the digits of its magnitude
pub below : (z : ℤ) → SFits w32 z → lt_z (to_z w32 (of_z w32 z)) (pos 0) ≡ true → decimal z ≡ 45 ∷ digits (nat_abs z)
unfolding decimal
below (pos n) f t = absurd (omega (arith, ltb-true n 0 (rw (to_z-of_z f) at t)))
below (negsuc n) f t = refl

-- one that is not: the digits of its magnitude
pub above : (z : ℤ) → SFits w32 z → lt_z (to_z w32 (of_z w32 z)) (pos 0) ≡ false → decimal z ≡ digits (nat_abs z)
unfolding decimal
above (pos n) f t = refl
above (negsuc n) f t = absurd (true≢false (rw (to_z-of_z f) at t))

-- the numbers of a row too short for one, and of a longer one
pub none_left : (s : List ℕ) → length s < 4 → spaced_all (numbers_of s) ≡ []
unfolding spaced_all numbers_of
none_left [] h = refl
none_left (a ∷ []) h = refl
none_left (a ∷ b ∷ []) h = refl
none_left (a ∷ b ∷ c ∷ []) h = refl
none_left (a ∷ b ∷ c ∷ d ∷ s) h = absurd (omega arith)

one_more : (s : List ℕ) → 4 ≤ length s
    → spaced_all (numbers_of s) ≡ 32 ∷ decimal (to_z w32 (word_at s 0)) ++ spaced_all (numbers_of (drop 4 s))
unfolding spaced_all numbers_of
one_more [] h = absurd (omega arith)
one_more (a ∷ []) h = absurd (omega arith)
one_more (a ∷ b ∷ []) h = absurd (omega arith)
one_more (a ∷ b ∷ c ∷ []) h = absurd (omega arith)
one_more (a ∷ b ∷ c ∷ d ∷ s) h = refl

-- a space and the first number, and then the rest of the row
pub row : {before middle later after : List ℕ} {at next far past : ℕ} {z : ℤ} (s : List ℕ) → z ≡ to_z w32 (word_at s 0) → 4 ≤ length s
    → Puts before at (32 ∷ []) middle next → Puts middle next (decimal z) later far
    → Puts later far (spaced_all (numbers_of (take (length s - 4) (drop 4 s)))) after past
    → Puts before at (spaced_all (numbers_of s)) after past
row s e h p q r =
    let rest = take_all (length s - 4) (drop 4 s) (simp length-drop (omega arith)) in
    rw (one_more s h, ← e, ← rest) (then (then p q) r)
