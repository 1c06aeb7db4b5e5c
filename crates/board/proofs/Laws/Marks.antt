-- Marks read back as they were set, and the ring: which sheet is how far behind the one served last, and that the first due one comes no
-- later than any due one.
use Rattle.std.specs.Prelude.{◌≡◌, Bool, ◌&&◌, eqb, ltb}
use Rattle.std.proofs.Math.Path.{refl}
use Rattle.std.proofs.Common.{ap, ◌∙◌, mod-eq_of_lt, ltb-true, ltb-false, lt-ltb, le-ltb}
use Prim.Native.Nat.{ℕ, zero, suc, ◌+◌, ◌-◌, ◌*◌, ◌/◌, ◌%◌, ◌^◌, ◌≤◌, ◌<◌}
use Rattle.std.proofs.Math.Nat.{mod-eq-sub-mod, mod-lt}
use native.Mathlib.Omega.{arith}
use Rattle.std.proofs.Math.Bool.{true, false, cond}
use Rattle.std.proofs.Math.Dec.{leb-suc-suc}
use Rattle.wires.specs.Sets.{member}
use Rattle.wires.specs.Laws.{none_in, member-zero, member-suc}
use Rattle.sheet.specs.Laws.Lists.{never}
use Rattle.sheet.specs.Laws.Lowest.{lowest-below, lowest-first, lowest-found}
use Rattle.board.specs.Marks.{marks_of, served_last, ring_at, place_of_due, first_due}

-- marks read back, and those above the count are dropped
pub marks-back : (test : ℕ → Bool) (n k : ℕ) → member (marks_of test n) k ≡ (ltb k n && test k)
unfolding marks_of
marks-back test zero k = rw (le-ltb k 0 (omega arith)) (none_in k)
marks-back test (suc n) zero = rw (lt-ltb 0 (suc n) (omega arith), member-zero) (go (test zero) (marks_of (λ k. test (suc k)) n))
  where
    go : (t : Bool) (m : ℕ) → eqb ((cond t 1 0 + 2 * m) % 2) 1 ≡ t
    go true m = let e : (1 + 2 * m) % 2 ≡ 1 = omega arith in rw e
    go false m = let e : (0 + 2 * m) % 2 ≡ 0 = omega arith in rw e
marks-back test (suc n) (suc k) =
    rw (member-suc, halved (test zero) (marks_of (λ k. test (suc k)) n), leb-suc-suc (suc k) n) (marks-back (λ k. test (suc k)) n k)
  where
    halved : (t : Bool) (m : ℕ) → (cond t 1 0 + 2 * m) / 2 ≡ m
    halved true m = omega arith
    halved false m = omega arith

pub marks-none : (test : ℕ → Bool) (n : ℕ) → ((k : ℕ) → k < n → test k ≡ false) → marks_of test n ≡ 0
unfolding marks_of
marks-none test zero None-passes = refl
marks-none test (suc n) None-passes =
    rw (None-passes zero (omega arith), marks-none (λ k. test (suc k)) n (λ k l. None-passes (suc k) (omega arith)))

-- the marks of eight sheets are a byte
pub marks-below : (test : ℕ → Bool) (n : ℕ) → marks_of test n < 2 ^ n
unfolding marks_of
marks-below test zero = omega arith
marks-below test (suc n) = go (test zero) (marks-below (λ k. test (suc k)) n)
  where
    go : (t : Bool) → marks_of (λ k. test (suc k)) n < 2 ^ n → cond t 1 0 + 2 * marks_of (λ k. test (suc k)) n < 2 ^ suc n
    go true l = omega arith
    go false l = omega arith

-- k is the d-th of n sheets behind the last one served
pub data Behind (n last d k : ℕ) : Type 0 where
  onward : last + 1 + d ≡ k → Behind n last d k
  around : last + 1 + d ≡ k + n → Behind n last d k

module _ (n last : ℕ) (is_last : last < n) where
  pub behind-some : (k : ℕ) → k < n → (d : ℕ) × (d < n) × Behind n last d k
  behind-some k l = go (ltb last k) refl
    where
      go : (t : Bool) → ltb last k ≡ t → (d : ℕ) × (d < n) × Behind n last d k
      go true e = (k - (last + 1), omega arith, onward (omega (arith, ltb-true last k e)))
      go false e = (k + n - (last + 1), omega (arith, ltb-false last k e), around (omega arith))

  -- its number, and what is behind a sheet on the way to it
  pub ring_behind : (d k : ℕ) → k < n → Behind n last d k → (last + 1 + d) % n ≡ k
  ring_behind d k l (onward e) = rw e (mod-eq_of_lt l)
  ring_behind d k l (around e) =
      rw (e, mod-eq-sub-mod {n = k + n} {m = n} (omega arith)) (let s : k + n - n ≡ k = omega arith in rw s (mod-eq_of_lt l))

  pub behind-next : (d k i : ℕ) → d < n → k < n → i < d → Behind n last d k → Behind n ((last + 1 + i) % n) (d - (i + 1)) k
  behind-next d k i b l m (onward e) =
      let here : (last + 1 + i) % n ≡ last + 1 + i = mod-eq_of_lt (omega arith) in
      onward (omega arith)
  behind-next d k i b l m (around e) = go (ltb (last + 1 + i) n) refl
    where
      go : (t : Bool) → ltb (last + 1 + i) n ≡ t → Behind n ((last + 1 + i) % n) (d - (i + 1)) k
      go true q =
          let here : (last + 1 + i) % n ≡ last + 1 + i = mod-eq_of_lt (ltb-true (last + 1 + i) n q) in
          around (omega arith)
      go false q =
          let past = ltb-false (last + 1 + i) n q in
          let here : (last + 1 + i) % n ≡ last + 1 + i - n = mod-eq-sub-mod past ∙ mod-eq_of_lt (omega arith) in
          onward (omega arith)

pub last-served : (n number : ℕ) → zero < n → served_last n number < n
last-served n number positive = go (ltb number n) refl
  where
    go : (t : Bool) → ltb number n ≡ t → cond t number (n - 1) < n
    go true e = ltb-true number n e
    go false e = omega arith

-- the first due sheet, where one is due d places on: it is that one, or one before it, and then that one comes nearer
pub data First (n : ℕ) (due : ℕ → Bool) (number d k : ℕ) : Type 0 where
  itself : first_due n due number ≡ k → First n due number d k
  before : (j e : ℕ) → first_due n due number ≡ j → j < n → e < d → Behind n j e k → First n due number d k

module _ (n : ℕ) (due : ℕ → Bool) (number : ℕ) where
  pub first-due : (d k : ℕ) → d < n → k < n → due k ≡ true → Behind n (served_last n number) d k → First n due number d k
  unfolding first_due
  first-due d k b l marks behind = go (ltb p d) refl
    where
      last : ℕ
      last = served_last n number

      is_last : last < n
      is_last = last-served n number (omega arith)

      p : ℕ
      p = place_of_due n due number

      there : ring_at n number d ≡ k
      there = ring_behind n last is_last d k l behind

      below : p < n
      below = lowest-below (λ i. due (ring_at n number i)) n d b (rw there marks)

      go : (t : Bool) → ltb p d ≡ t → First n due number d k
      go true e =
          before (ring_at n number p) (d - (p + 1)) (rw (lt-ltb p n below)) (mod-lt (last + 1 + p) (omega arith))
          (omega (arith, ltb-true p d e)) (behind-next n last is_last d k p b l (ltb-true p d e) behind)
      go false e = itself (rw (lt-ltb p n below) (ap (ring_at n number) same ∙ there))
        where
          none_first : d < p → due (ring_at n number d) ≡ false
          none_first q = lowest-first (λ i. due (ring_at n number i)) n d q

          same : p ≡ d
          same = at_most (ltb d p) refl
            where
              at_most : (t : Bool) → ltb d p ≡ t → p ≡ d
              at_most true q = let f = none_first (ltb-true d p q) in let g : due (ring_at n number d) ≡ true = rw there marks in never (cc)
              at_most false q = omega (arith, ltb-false d p q, ltb-false p d e)

  -- the first due one is a sheet, or none
  pub first-most : zero < n → first_due n due number ≤ n
  unfolding first_due
  first-most positive = go (ltb (place_of_due n due number) n)
    where
      go : (t : Bool) → cond t (ring_at n number (place_of_due n due number)) n ≤ n
      go true = omega (arith, mod-lt (served_last n number + 1 + place_of_due n due number) positive)
      go false = omega arith

  -- a due sheet makes the first one a sheet
  pub some-due : (k : ℕ) → k < n → due k ≡ true → first_due n due number < n
  some-due k l q =
      let (d, b, behind) = behind-some n (served_last n number) (last-served n number (omega arith)) k l in
      go (first-due d k b l q behind)
    where
      go : {d : ℕ} → First n due number d k → first_due n due number < n
      go (itself e) = rw e l
      go (before j e f is_sheet _ _) = rw f is_sheet

  -- none is due where the first due sheet is none
  pub none-due : n ≤ first_due n due number → (k : ℕ) → k < n → due k ≡ false
  none-due past k l = go (due k) refl
    where
      go : (t : Bool) → due k ≡ t → due k ≡ false
      go false q = q
      go true q = absurd (omega (arith, some-due k l q))

  -- what is served is a sheet that is due
  pub first-is : first_due n due number < n → due (first_due n due number) ≡ true
  unfolding first_due
  first-is l = go (ltb p n) refl l
    where
      p : ℕ
      p = place_of_due n due number

      go : (t : Bool) → ltb p n ≡ t → cond t (ring_at n number p) n < n → due (cond t (ring_at n number p) n) ≡ true
      go true q l = lowest-found (λ i. due (ring_at n number i)) n (ltb-true p n q)
      go false q l = absurd (omega arith)
