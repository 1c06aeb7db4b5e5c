-- Counting known values: a list that grows knows more, or is the same.
use Rattle.std.specs.Prelude.{◌≡◌, refl, ℕ, zero, suc, ◌+◌, ◌≤◌, ◌<◌, Bool, true, false, List, [], ◌∷◌, leb, length, replicate, set}
use Rattle.std.proofs.Common.{ap₂, zero-le, arith, leb-true, leb-false}
use Rattle.kernel.specs.Values.{IsKnown, known}
use Rattle.kernel.specs.Order.{◌⊑◌, unknown, same, ◌⊑*◌, value_at, tally, known_count}
use Rattle.kernel.specs.Equality.{same_values}
use Rattle.kernel.specs.Systems.{Full}
use Rattle.sheet.specs.Laws.Lists.{never}
use Rattle.kernel.proofs.Laws.Equality.{values-refl}
use Rattle.kernel.specs.declared.Value.{Value}
use Rattle.kernel.specs.declared.Value.TheVariants.{Unknown, Known}

tally-grows : {u v : Value} → u ⊑ v → tally u ≤ tally v
tally-grows unknown = zero-le
tally-grows same = omega arith

tally-same : {u v : Value} → u ⊑ v → tally v ≤ tally u → u ≡ v
tally-same {v = v} unknown h = go v h
  where
    go : (v : Value) → tally v ≤ 0 → Unknown ≡ v
    go Unknown h = refl
    go (Known d) h = absurd (omega arith)
tally-same same h = refl

tails : {x y : Value} {xs ys : List Value} → (x ∷ xs) ⊑* (y ∷ ys) → xs ⊑* ys
tails h = record { at = λ w. h.at (suc w) }

pub count-grows : (xs ys : List Value) → length xs ≡ length ys → xs ⊑* ys → known_count xs ≤ known_count ys
unfolding known_count
count-grows [] ys e h = zero-le
count-grows (x ∷ xs) [] e h = absurd (omega arith)
count-grows (x ∷ xs) (y ∷ ys) e h = omega (arith, tally-grows (h.at 0), count-grows xs ys (omega arith) (tails h))

pub count_same : (xs ys : List Value) → length xs ≡ length ys → xs ⊑* ys → known_count ys ≤ known_count xs → xs ≡ ys
unfolding known_count
count_same [] [] e h c = refl
count_same [] (y ∷ ys) e h c = absurd (omega arith)
count_same (x ∷ xs) [] e h c = absurd (omega arith)
count_same (x ∷ xs) (y ∷ ys) e h c =
    let l : length xs ≡ length ys = omega arith in
    let g = count-grows xs ys l (tails h) in
    let t = tally-grows (h.at 0) in
    ap₂ ◌∷◌ (tally-same (h.at 0) (omega arith)) (count_same xs ys l (tails h) (omega arith))

-- a list that grows and is not the same knows more
pub more-known : (xs ys : List Value) → length xs ≡ length ys → xs ⊑* ys → same_values xs ys ≡ false → known_count xs < known_count ys
more-known xs ys l h differ = go (leb (known_count ys) (known_count xs)) refl
  where
    go : (t : Bool) → leb (known_count ys) (known_count xs) ≡ t → known_count xs < known_count ys
    go false e = leb-false (known_count ys) (known_count xs) e
    go true e =
        let s = count_same xs ys l h (leb-true (known_count ys) (known_count xs) e) in
        let t : same_values xs ys ≡ true = rw s (values-refl ys) in
        never (cc)

pub count-bound : (xs : List Value) → known_count xs ≤ length xs
unfolding known_count
count-bound [] = zero-le
count-bound (Unknown ∷ xs) = omega (arith, count-bound xs)
count-bound (Known d ∷ xs) = omega (arith, count-bound xs)

pub count-full : (xs : List Value) → length xs ≤ known_count xs → Full (length xs) xs
unfolding known_count Full
count-full [] h w l = absurd (omega arith)
count-full (Unknown ∷ xs) h w l = absurd (omega (arith, count-bound xs))
count-full (Known d ∷ xs) h zero l = known
count-full (Known d ∷ xs) h (suc w) l = count-full xs (omega arith) w (omega arith)

-- an unknown value that is made known counts one more
pub count_set : (xs : List Value) (w : ℕ) (v : Value) → w < length xs → value_at xs w ≡ Unknown → IsKnown v
    → known_count (set xs w v) ≡ suc (known_count xs)
unfolding known_count
count_set [] w v l e k = absurd (omega arith)
count_set (x ∷ xs) zero v l e k = rw e (one v k)
  where
    one : (v : Value) → IsKnown v → tally v + known_count xs ≡ suc (0 + known_count xs)
    one v known = omega arith
count_set (x ∷ xs) (suc w) v l e k = rw (count_set xs w v (omega arith) e k) (omega arith)

pub count-unknown : (n : ℕ) → known_count (replicate n Unknown) ≡ 0
unfolding known_count
count-unknown zero = refl
count-unknown (suc n) = rw (count-unknown n)
