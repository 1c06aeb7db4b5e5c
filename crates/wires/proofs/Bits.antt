-- What the bit operations of `Wires` do to the set: shift, or, and, complement, the count of ones, the zeros below the lowest one.
use Prim.Native.Nat.{ℕ, zero, suc, ◌+◌, ◌-◌, ◌*◌, ◌/◌, ◌%◌, ◌^◌, ◌≤◌, ◌<◌}
use mathlib.Core.Path.{◌≡◌, refl, sym, ap, ap₂, ◌∙◌}
use mathlib.Core.Bool.{Bool, true, false, cond, not, ◌&&◌, ◌||◌}
use native.Mathlib.Nat.{mod-lt, mod-eq_of_lt, mod-one, div-one, div-eq_of_lt, div-eq_of_lt-le, mul-mod_left, mul-div_cancel}
use native.Mathlib.Nat.{pow-suc, zero-lt-suc, one-mul, sub-zero}
use native.Mathlib.Numerals.{one-add}
use native.Mathlib.Omega.{arith}
use lib.Dec.{eqb, ltb, eqb-suc-suc, eqb-zero-suc, eqb-suc-zero, lit<}
use lib.Bits.{bit_or, bit_and, or_shr, or_mod, or_lt, and_shr, and_mod, and_mask}
use lib.Count.{ones, ones_cat, ones-ones, count_leading_zeros, leading_length, count_trailing_zeros, under, trailing_le}
use lib.Pow.{pow_pos, pow-lt, mod-pow-add}
use borrow.Author.Tests.{eqb-true, eq-eqb, ne_eqb, ltb-true, ltb-false}
use Rattle.wires.specs.Laws.{none_in, half, member-zero, member-suc, halves, same-members, beyond}
use Rattle.wires.specs.Sets.{member, tally, LowestPresent, EndsAt, TestsWithin}

-- Members of a union, and of the set of one wire.

digit_or : (p q : ℕ) → p < 2 → q < 2 → eqb (bit_or p q) 1 ≡ (eqb p 1 || eqb q 1)
digit_or zero q hp hq = refl
digit_or (suc zero) zero hp hq = refl
digit_or (suc zero) (suc zero) hp hq = refl
digit_or (suc zero) (suc (suc q)) hp hq = absurd (omega arith)
digit_or (suc (suc p)) q hp hq = absurd (omega arith)

pub or-member : (a b k : ℕ) → member (bit_or a b) k ≡ (member a k || member b k)
unfolding member
or-member a b k =
    ap (λ (x : ℕ). eqb (x % 2) 1) (or_shr a b k) ∙ ap (λ (x : ℕ). eqb x 1) (or_mod (a / 2 ^ k) (b / 2 ^ k) 1)
    ∙ digit_or (a / 2 ^ k % 2) (b / 2 ^ k % 2) (omega arith) (omega arith)

one-member : (w k : ℕ) → member (2 ^ w) k ≡ eqb k w
unfolding member
one-member zero zero = refl
one-member zero (suc k) = rw (div-eq_of_lt (pow-lt {i = 0} {j = suc k} (zero-lt-suc k)), eqb-suc-zero k)
one-member (suc w) zero = rw (div-one, pow-suc, mul-mod_left, eqb-zero-suc w)
one-member (suc w) (suc k) =
    rw (half, pow-suc, mul-div_cancel (2 ^ w) {n = 2} (lit< tt), eqb-suc-suc) (one-member w k)

-- the shift of the code, at 64 bits
pub power_is : (n : ℕ) → n < 64 → 1 * 2 ^ n % 2 ^ 64 ≡ 2 ^ n
power_is n h = rw (one-mul (2 ^ n), mod-eq_of_lt (pow-lt {i = n} {j = 64} h))

pub with_is : (n w k : ℕ) → w < 64 → member (bit_or n (1 * 2 ^ w % 2 ^ 64)) k ≡ (member n k || eqb k w)
with_is n w k h =
    rw (power_is w h) (or-member n (2 ^ w) k ∙ ap (λ (b : Bool). member n k || b) (one-member w k))

pub has-is : (n k : ℕ) → eqb (bit_and (n / 2 ^ k) 1) 1 ≡ member n k
unfolding member
has-is n k = ap (λ (x : ℕ). eqb x 1) (and_mask (n / 2 ^ k) 1)

-- The count.

digit_ones : (d : ℕ) → d < 2 → ones d ≡ cond (eqb d 1) 1 0
digit_ones zero h = ones-ones 0
digit_ones (suc zero) h = ones-ones 1
digit_ones (suc (suc d)) h = absurd (omega arith)

tally-ones : (n k : ℕ) → tally (member n) k ≡ ones (n % 2 ^ k)
unfolding tally member
tally-ones n zero = sym (ap ones (mod-one n) ∙ ones-ones 0)
tally-ones n (suc k) =
    ap₂ ◌+◌ (sym (digit_ones (n / 2 ^ k % 2) (omega arith))) (tally-ones n k)
    ∙ sym (ones_cat k (n / 2 ^ k % 2) (n % 2 ^ k) (mod-lt n (pow_pos k)))
    ∙ ap ones (sym (mod-pow-add n 1 k)) ∙ ap (λ (i : ℕ). ones (n % 2 ^ i)) (one-add k)

pub count-is : (n : ℕ) → n < 2 ^ 64 → ones n ≡ tally (member n) 64
count-is n h = sym (tally-ones n 64 ∙ ap ones (mod-eq_of_lt h))

-- A set within another: joined to it, it adds nothing.

or_right : (a b : Bool) → (a ≡ true → b ≡ true) → (a || b) ≡ b
or_right true b h = sym (h refl)
or_right false b h = refl

pub within-is : (n m : ℕ) → n < 2 ^ 64 → m < 2 ^ 64 → TestsWithin n m (eqb (bit_or n m) m)
within-is n m hn hm =
    record {
      all = λ e k i. sym (ap (λ (x : ℕ). member x k) (eqb-true (bit_or n m) m e)) ∙ or-member n m k ∙ ap (λ b. b || member m k) i;
      only = λ h. eq-eqb (bit_or n m) m
          (same-members 64 (bit_or n m) m (or_lt 64 n m hn hm) hm (λ k. or-member n m k ∙ or_right (member n k) (member m k) (h k)));
    }

-- Members of the meet of two sets, and of a set without another.

digit_and : (p q : ℕ) → p < 2 → q < 2 → eqb (bit_and p q) 1 ≡ (eqb p 1 && eqb q 1)
digit_and zero q hp hq = refl
digit_and (suc zero) zero hp hq = refl
digit_and (suc zero) (suc zero) hp hq = refl
digit_and (suc zero) (suc (suc q)) hp hq = absurd (omega arith)
digit_and (suc (suc p)) q hp hq = absurd (omega arith)

pub and-member : (a b k : ℕ) → member (bit_and a b) k ≡ (member a k && member b k)
unfolding member
and-member a b k =
    ap (λ (x : ℕ). eqb (x % 2) 1) (and_shr a b k) ∙ ap (λ (x : ℕ). eqb x 1) (and_mod (a / 2 ^ k) (b / 2 ^ k) 1)
    ∙ digit_and (a / 2 ^ k % 2) (b / 2 ^ k % 2) (omega arith) (omega arith)

-- the complement of n at one digit more, its lowest digit and the rest
turned-digits : (k n : ℕ) → n < 2 ^ suc k
    → ((2 ^ suc k - 1 - n) % 2 ≡ 1 - n % 2) × ((2 ^ suc k - 1 - n) / 2 ≡ 2 ^ k - 1 - n / 2)
turned-digits k n h = let l : n < 2 ^ k * 2 = rw pow-suc at h in rw pow-suc (omega arith, omega arith)

digit_not : (d : ℕ) → d < 2 → eqb (1 - d) 1 ≡ not (eqb d 1)
digit_not zero h = refl
digit_not (suc zero) h = refl
digit_not (suc (suc d)) h = absurd (omega arith)

not-member : (j n k : ℕ) → n < 2 ^ j → k < j → member (2 ^ j - 1 - n) k ≡ not (member n k)
not-member zero n k h l = absurd (omega arith)
not-member (suc j) n zero h l =
    rw (member-zero n, member-zero (2 ^ suc j - 1 - n), (turned-digits j n h).0) (digit_not (n % 2) (omega arith))
not-member (suc j) n (suc k) h l =
    rw (member-suc n k, member-suc (2 ^ suc j - 1 - n) k, (turned-digits j n h).1) (not-member j (n / 2) k (halves j n h) (omega arith))

-- The first n wires: all digits below place n.

pub first-is : (n k : ℕ) → member (2 ^ n - 1) k ≡ ltb k n
first-is n k = go (ltb k n) refl
  where
    go : (t : Bool) → ltb k n ≡ t → member (2 ^ n - 1) k ≡ t
    go true e = sym (ap (λ (x : ℕ). member x k) (sub-zero (2 ^ n - 1))) ∙ not-member n 0 k (pow_pos n) (ltb-true k n e) ∙ ap not (none_in k)
    go false e = beyond (2 ^ n - 1) n k (omega (arith, pow_pos n)) (ltb-false k n e)

pub minus_is : (n m k : ℕ) → n < 2 ^ 64 → m < 2 ^ 64 → member (bit_and n (2 ^ 64 - 1 - m)) k ≡ (member n k && not (member m k))
minus_is n m k hn hm = and-member n (2 ^ 64 - 1 - m) k ∙ go (ltb k 64) refl
  where
    go : (t : Bool) → ltb k 64 ≡ t → (member n k && member (2 ^ 64 - 1 - m) k) ≡ (member n k && not (member m k))
    go true e = rw (not-member 64 m k hm (ltb-true k 64 e))
    go false e = rw (beyond n 64 k hn (ltb-false k 64 e))

pub without_is : (n w k : ℕ) → n < 2 ^ 64 → w < 64 → member (bit_and n (2 ^ 64 - 1 - 1 * 2 ^ w % 2 ^ 64)) k ≡ (member n k && not (eqb k w))
without_is n w k hn h =
    rw (power_is w h)
    (minus_is n (2 ^ w) k hn (pow-lt {i = w} {j = 64} h) ∙ ap (λ (b : Bool). member n k && not b) (one-member w k))

-- The lowest that is present, at k digits: as many zeros stand below the lowest one.

zeros-below : (k n j : ℕ) → j < count_trailing_zeros k n → member n j ≡ false
unfolding count_trailing_zeros
zeros-below zero n j g = absurd (omega arith)
zeros-below (suc k) n j g = go (zeros-below k (n / 2)) (n % 2) j refl g
  where
    go : ((i : ℕ) → i < count_trailing_zeros k (n / 2) → member (n / 2) i ≡ false)
        → (d j : ℕ) → n % 2 ≡ d → j < under d (count_trailing_zeros k (n / 2)) → member n j ≡ false
    go rest zero zero e g = member-zero n ∙ ne_eqb (n % 2) 1 (λ (q : n % 2 ≡ 1). omega arith)
    go rest zero (suc j) e g = member-suc n j ∙ rest j (omega arith)
    go rest (suc d) j e g = absurd (omega arith)

one-above : (k n : ℕ) → count_trailing_zeros k n < k → member n (count_trailing_zeros k n) ≡ true
unfolding count_trailing_zeros
one-above zero n g = absurd (omega arith)
one-above (suc k) n g = go (one-above k (n / 2)) (n % 2) refl g
  where
    go : (count_trailing_zeros k (n / 2) < k → member (n / 2) (count_trailing_zeros k (n / 2)) ≡ true)
        → (d : ℕ) → n % 2 ≡ d → under d (count_trailing_zeros k (n / 2)) < suc k → member n (under d (count_trailing_zeros k (n / 2))) ≡ true
    go rest zero e g = member-suc n _ ∙ rest (omega arith)
    go rest (suc d) e g = member-zero n ∙ eq-eqb (n % 2) 1 (omega arith)

pub lowest-present-is : (n : ℕ) → n < 2 ^ 64 → LowestPresent (member n) 64 (count_trailing_zeros 64 n)
lowest-present-is n h =
    record { within = trailing_le 64 n; below = zeros-below 64 n; present = one-above 64 n; empty = λ none j. go none j (ltb j 64) refl }
  where
    go : 64 ≤ count_trailing_zeros 64 n → (j : ℕ) (t : Bool) → ltb j 64 ≡ t → member n j ≡ false
    go none j true e = let l = ltb-true j 64 e in zeros-below 64 n j (omega arith)
    go none j false e = beyond n 64 j h (ltb-false j 64 e)

-- One more than the highest that is present is the number's length in digits.
pub end_is : (n : ℕ) → n < 2 ^ 64 → EndsAt (member n) 64 (64 - count_leading_zeros 64 n)
unfolding member
end_is n h =
    let (m, sum, below, least) = leading_length 64 n h in
    let length-is : 64 - count_leading_zeros 64 n ≡ m = omega arith in
    rw length-is
    (record { within = omega arith; above = λ j l. beyond n m j below l; highest = λ j e. top j (rw e at below) (rw e at least) })
  where
    top : (j : ℕ) → n < 2 ^ suc j → 2 ^ suc j ≤ 2 * n + 1 → member n j ≡ true
    top j below least =
        let b : n < 2 ^ j * 2 = rw pow-suc at below in
        let l : 2 ^ j * 2 ≤ 2 * n + 1 = rw pow-suc at least in
        let one : n / 2 ^ j ≡ 1 = div-eq_of_lt-le (2 ^ j) (omega arith) (omega arith) in
        rw one
