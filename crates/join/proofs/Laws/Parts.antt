-- A list that stands in a longer one has there, from its number on, what it has.
use Rattle.std.specs.Prelude.{◌≡◌, refl, ℕ, zero, suc, ◌+◌, ◌≤◌, ◌<◌, List, [], ◌∷◌, ◌++◌, length, take, drop, get_or}
use Rattle.std.proofs.Common.{arith, append-nil, length-append, length-drop, get_or-append-add}
use Rattle.std.proofs.Math.Option.{some}
use Rattle.std.proofs.Math.ListN.{get_elem?, get_or-append}
use Rattle.std.proofs.Math.Seq.{drop-append-add}
use Rattle.std.proofs.lemmas.List.{drop-append-le, take-append-le}
use Rattle.sheet.specs.Laws.Lists.{never}

-- the part stands in the whole from number n on
pub record Inside {A : Type 0} (n : ℕ) (part whole : List A) : Type 0 where
  pub before : List A
  pub after : List A
  pub counted : length before ≡ n
  pub split : whole ≡ before ++ (part ++ after)

pub first-inside : {A : Type 0} (xs ys : List A) → Inside 0 xs (xs ++ ys)
first-inside xs ys = record { before = []; after = ys; counted = refl; split = refl }

pub second-inside : {A : Type 0} (n : ℕ) (xs ys : List A) → length xs ≡ n → Inside n ys (xs ++ ys)
second-inside n xs ys e = record { before = xs; after = []; counted = e; split = rw append-nil }

pub some-range : {A : Type 0} (xs : List A) (i : ℕ) {x : A} → get_elem? xs i ≡ some x → i < length xs
some-range [] i e = never (cc)
some-range (y ∷ xs) zero e = omega arith
some-range (y ∷ xs) (suc i) e = omega (arith, some-range xs i e)

module _ {A : Type 0} {n : ℕ} {part whole : List A} (h : Inside n part whole) where
  pub inside-fits : n + length part ≤ length whole
  inside-fits = rw h.split (simp length-append (omega (arith, h.counted)))

  pub inside-at : (i : ℕ) (d : A) → i < length part → get_or whole (n + i) d ≡ get_or part i d
  inside-at i d l =
      rw (h.split, ← h.counted, get_or-append-add h.before (part ++ h.after) i d) (get_or-append part h.after d i l)

  pub inside-slice : (i c : ℕ) → i + c ≤ length part → take c (drop (n + i) whole) ≡ take c (drop i part)
  inside-slice i c l =
      rw (h.split, ← h.counted, drop-append-add h.before (part ++ h.after) i)
      (rw (drop-append-le i part h.after (omega arith))
      (take-append-le c (drop i part) h.after (rw (length-drop i part) (omega arith))))
