-- Laws of the digits of a set, of counting and of the lowest number that a set has or misses, for any set: what callers need to know of the
-- definitions.
use Rattle.std.specs.Prelude.{ℕ, zero, suc, ◌+◌, ◌-◌, ◌*◌, ◌/◌, ◌%◌, ◌^◌, ◌≤◌, ◌<◌, ◌≡◌, refl, ◌≢◌, Bool, true, false, cond, not, ◌&&◌, ◌||◌, eqb}
use Rattle.std.proofs.Common.{sym, ap, ◌∙◌, true≢false, suc-add, zero-add, div-one, pow-suc, lt_of_not-le, lt_of_lt_of_le, one-add, arith, pow_mono, shr-shr, below_more, eq-eqb, ne_eqb, eqb-true}
use Rattle.std.proofs.Math.Bool.{or-false, and-true, and-false}
use Rattle.std.proofs.Math.Nat.{zero-div, div-eq_of_lt}
use Rattle.std.proofs.lemmas.Bool.{eqb-false}
use Rattle.wires.specs.Sets.{member, tally, LowestPresent, EndsAt}

-- no bit of 0 is 1
pub none_in : (k : ℕ) → member 0 k ≡ false
unfolding member
none_in k = rw (zero-div (2 ^ k))

-- one digit further up is one digit of the half
pub half : (n k : ℕ) → n / 2 ^ suc k ≡ n / 2 / 2 ^ k
half n k = rw (← one-add k, ← shr-shr n 1 k)

-- Digit by digit from the lowest.

pub member-zero : (n : ℕ) → member n 0 ≡ eqb (n % 2) 1
unfolding member
member-zero n = rw div-one

pub member-suc : (n k : ℕ) → member n (suc k) ≡ member (n / 2) k
unfolding member
member-suc n k = rw half

pub halves : (k n : ℕ) → n < 2 ^ suc k → n / 2 < 2 ^ k
halves k n h = let l : n < 2 ^ k * 2 = rw pow-suc at h in omega arith

digit-same : (p q : ℕ) → p < 2 → q < 2 → eqb p 1 ≡ eqb q 1 → p ≡ q
digit-same zero zero hp hq e = refl
digit-same zero (suc zero) hp hq e = absurd (true≢false (sym e))
digit-same (suc zero) zero hp hq e = absurd (true≢false e)
digit-same (suc zero) (suc zero) hp hq e = refl
digit-same zero (suc (suc q)) hp hq e = absurd (omega arith)
digit-same (suc zero) (suc (suc q)) hp hq e = absurd (omega arith)
digit-same (suc (suc p)) q hp hq e = absurd (omega arith)

-- numbers of k digits with the same members are the same
pub same-members : (k n m : ℕ) → n < 2 ^ k → m < 2 ^ k → ((i : ℕ) → member n i ≡ member m i) → n ≡ m
same-members zero n m hn hm e = omega arith
same-members (suc k) n m hn hm e =
    let low = digit-same (n % 2) (m % 2) (omega arith) (omega arith) (sym (member-zero n) ∙ e 0 ∙ member-zero m) in
    let high = same-members k (n / 2) (m / 2) (halves k n hn) (halves k m hm)
    (λ i. sym (member-suc n i) ∙ e (suc i) ∙ member-suc m i) in
    omega arith

-- no digit stands at k or above it
pub beyond : (n j k : ℕ) → n < 2 ^ j → j ≤ k → member n k ≡ false
unfolding member
beyond n j k h l = rw (div-eq_of_lt (lt_of_lt_of_le h (pow_mono l)))

-- the count below n depends only on the members below n
pub tally-same : (f g : ℕ → Bool) (n : ℕ) → ((k : ℕ) → k < n → f k ≡ g k) → tally f n ≡ tally g n
unfolding tally
tally-same f g zero h = refl
tally-same f g (suc n) h = rw (h n (omega arith), tally-same f g n (λ k l. h k (omega arith)))

-- where none is in from n on, counting further adds nothing
pub tally-beyond : (f : ℕ → Bool) (n m : ℕ) → n ≤ m → ((k : ℕ) → n ≤ k → f k ≡ false) → tally f m ≡ tally f n
unfolding tally
tally-beyond f n m h past = let e : m - n + n ≡ m = omega arith in ap (tally f) (sym e) ∙ more (m - n)
  where
    more : (d : ℕ) → tally f (d + n) ≡ tally f n
    more zero = rw zero-add
    more (suc d) = rw (suc-add d n, past (d + n) (omega arith), more d) (omega arith)

-- the count from the front
pub tally-front : (f : ℕ → Bool) (n : ℕ) → tally f (suc n) ≡ cond (f 0) 1 0 + tally (λ k. f (suc k)) n
unfolding tally
tally-front f zero = refl
tally-front f (suc n) = omega (arith, tally-front f n)

-- a larger set counts at least as many
pub tally-grows : (f g : ℕ → Bool) (n : ℕ) → ((k : ℕ) → k < n → f k ≡ true → g k ≡ true) → tally f n ≤ tally g n
unfolding tally
tally-grows f g zero h = omega arith
tally-grows f g (suc n) h = go (f n) (g n) (h n (omega arith)) (tally-grows f g n (λ k l. h k (omega arith)))
  where
    go : (a b : Bool) → (a ≡ true → b ≡ true) → tally f n ≤ tally g n → cond a 1 0 + tally f n ≤ cond b 1 0 + tally g n
    go true true i l = omega arith
    go true false i l = absurd (true≢false (sym (i refl)))
    go false true i l = omega arith
    go false false i l = omega arith

-- and where it counts no more, it is the same
pub tally-equal : (f g : ℕ → Bool) (n : ℕ) → ((k : ℕ) → k < n → f k ≡ true → g k ≡ true)
    → tally f n ≡ tally g n → (k : ℕ) → k < n → f k ≡ g k
unfolding tally
tally-equal f g zero h e k l = absurd (omega arith)
tally-equal f g (suc n) h e k l =
    let both = go (f n) (g n) (h n (omega arith)) e (tally-grows f g n inner) in
    below_more (λ i. f i ≡ g i) n (tally-equal f g n inner both.0) both.1 k (omega arith)
  where
    inner : (i : ℕ) → i < n → f i ≡ true → g i ≡ true
    inner i j = h i (omega arith)

    go : (a b : Bool) → (a ≡ true → b ≡ true) → cond a 1 0 + tally f n ≡ cond b 1 0 + tally g n → tally f n ≤ tally g n
        → (tally f n ≡ tally g n) × (a ≡ b)
    go true true i s m = (omega arith, refl)
    go true false i s m = absurd (true≢false (sym (i refl)))
    go false true i s m = absurd (omega arith)
    go false false i s m = (omega arith, refl)

-- with a number below n taken out, fewer are counted
pub tally-taken : (f g : ℕ → Bool) (n w : ℕ) → w < n → f w ≡ true → ((k : ℕ) → g k ≡ (f k && not (eqb k w))) → tally g n < tally f n
tally-taken f g n w l here taken =
    lt_of_not-le (λ (m : tally f n ≤ tally g n).
    let same = tally-equal g f n inner (omega (arith, tally-grows g f n inner, m)) w l in
    true≢false (sym here ∙ sym same ∙ taken w ∙ rw (eq-eqb w w refl) (and-false (f w))))
  where
    inner : (k : ℕ) → k < n → g k ≡ true → f k ≡ true
    inner k j e = go (f k) refl
      where
        go : (t : Bool) → f k ≡ t → f k ≡ true
        go true i = i
        go false i = absurd (true≢false (sym e ∙ taken k ∙ rw i refl))

-- where all below n are in, the count below n is n
pub all-full : (f : ℕ → Bool) (n : ℕ) → ((k : ℕ) → k < n → f k ≡ true) → tally f n ≡ n
unfolding tally
all-full f zero h = refl
all-full f (suc n) h = rw (h n (omega arith), all-full f n (λ k l. h k (omega arith))) (omega arith)

-- and the converse
pub tally-full : (f : ℕ → Bool) (n : ℕ) → tally f n ≡ n → (k : ℕ) → k < n → f k ≡ true
tally-full f n e = tally-equal f (λ _. true) n (λ _ _ _. refl) (e ∙ sym (all-full (λ _. true) n (λ _ _. refl)))

-- the count below n is at most n
pub tally-bound : (f : ℕ → Bool) (n : ℕ) → tally f n ≤ n
tally-bound f n = rw (all-full (λ _. true) n (λ _ _. refl)) at (tally-grows f (λ _. true) n (λ _ _ _. refl))

-- with the lowest number taken out, the lowest one is higher
pub lowest-present-rises : (f g : ℕ → Bool) (k r s : ℕ) → LowestPresent f k r → r < k → ((j : ℕ) → g j ≡ (f j && not (eqb j r)))
    → LowestPresent g k s → r < s
lowest-present-rises f g k r s p l taken q =
    lt_of_not-le (λ (m : s ≤ r). true≢false (sym (q.present (omega arith)) ∙ gone s m))
  where
    gone : (j : ℕ) → j ≤ r → g j ≡ false
    gone j m =
        let here : (f r && not (eqb r r)) ≡ false = rw (eq-eqb r r refl) (and-false (f r)) in
        taken j ∙ below_more (λ i. (f i && not (eqb i r)) ≡ false) r (λ i n. rw (p.below i n)) here j (omega arith)

-- what holds at w, and at x where x is another
pub at-or_else : (P : ℕ → Type 0) (w x : ℕ) → P w → (x ≢ w → P x) → P x
at-or_else P w x here there = go (eqb x w) refl
  where
    go : (t : Bool) → eqb x w ≡ t → P x
    go true e = rw (eqb-true x w e) here
    go false e = there (eqb-false x w e)

-- with a number added, the set is the same at every other one
pub added-other : (f g : ℕ → Bool) (w : ℕ) → ((j : ℕ) → g j ≡ (f j || eqb j w)) → (x : ℕ) → x ≢ w → g x ≡ f x
added-other f g w added x other = added x ∙ rw (ne_eqb x w other) (or-false (f x))

-- With a number taken out.
module _ (f g : ℕ → Bool) (w : ℕ) (taken : (j : ℕ) → g j ≡ (f j && not (eqb j w))) where
  -- the set is the same at every other one
  pub taken-other : (x : ℕ) → x ≢ w → g x ≡ f x
  taken-other x other = taken x ∙ rw (ne_eqb x w other) (and-true (f x))

  -- what is in it was in it before, and is another
  pub left_other : (x : ℕ) → g x ≡ true → (f x ≡ true) × (x ≢ w)
  left_other x e = go (eqb x w) refl
    where
      go : (t : Bool) → eqb x w ≡ t → (f x ≡ true) × (x ≢ w)
      go true same = absurd (true≢false (sym e ∙ taken x ∙ rw same (and-false (f x))))
      go false other = let apart = eqb-false x w other in (sym (taken-other x apart) ∙ e, apart)

  -- where it was the highest, the end is lower
  pub end_falls : (k r s : ℕ) → EndsAt f k r → r ≡ suc w → EndsAt g k s → s < r
  end_falls k r s p top q = go s refl
    where
      go : (i : ℕ) → s ≡ i → s < r
      go zero e = omega arith
      go (suc j) e =
          let (present, other) = left_other j (q.highest j e) in
          let low : j < r = lt_of_not-le (λ (l : r ≤ j). true≢false (sym present ∙ p.above j l)) in
          let lower : j < w = lt_of_not-le (λ (l : w ≤ j). other (omega arith)) in
          omega arith
