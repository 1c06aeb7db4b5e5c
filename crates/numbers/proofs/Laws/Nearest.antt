-- What a reader should believe of `settled`, whatever its formula: it gives the nearest number of 32 bits, it is monotone, and a
-- register at an end stays there.
use Rattle.std.specs.Prelude.{ℕ, zero, suc, ◌+◌, ◌-◌, ◌≤◌, ◌≡◌, refl, Bool, true, false, cond, ltb, ℤ, pos, negsuc, nat_abs, ◌+ℤ◌, ◌-ℤ◌, ◌≤ℤ◌, ◌<ℤ◌}
use Rattle.std.proofs.Common.{sym, ap, ◌∙◌, arith, le→leb, leb→le, ltb→lt, SFits, ltb-true, ltb-false}
use Rattle.std.proofs.Math.IntN.{sub_ℕ}
use Rattle.std.specs.Int.Signed.{mag}
use Rattle.std.specs.Int.{w32}
use Rattle.numbers.specs.Numbers.{greatest, least, settled}

-- how far two numbers are apart
abbrev pub distance : ℤ → ℤ → ℕ
distance y z = nat_abs (y -ℤ z)

-- y is a number of 32 bits, and none is nearer to z
pub record Nearest (z y : ℤ) : Type 0 where
  pub fits : SFits w32 y
  pub nearest : (x : ℤ) → SFits w32 x → distance z y ≤ distance z x

-- Distances by the signs.
apart : (a b : ℕ) → nat_abs (sub_ℕ a b) ≡ a - b + (b - a)
apart a b = go (ltb a b) refl
  where
    go : (t : Bool) → ltb a b ≡ t → nat_abs (cond t (negsuc (b - suc a)) (pos (a - b))) ≡ a - b + (b - a)
    go true t = omega (arith, ltb-true a b t)
    go false t = omega (arith, ltb-false a b t)

between-naturals : (a b : ℕ) → distance (pos a) (pos b) ≡ a - b + (b - a)
between-naturals a zero = omega arith
between-naturals a (suc b) = apart a (suc b)

between-negatives : (a b : ℕ) → distance (negsuc a) (negsuc b) ≡ a - b + (b - a)
between-negatives a b = apart (suc b) (suc a) ∙ omega arith

up-to-natural : (a b : ℕ) → distance (negsuc a) (pos b) ≡ a + suc b
up-to-natural a zero = apart 0 (suc a) ∙ omega arith
up-to-natural a (suc b) = omega arith

-- A settled number keeps its sign; behind the sign, what passes the end is taken off.
abbrev kept : ℕ → ℕ
kept n = n - (n - 2147483647)

stopped : (sign : ℕ → ℤ) (n : ℕ) (t : Bool) → ltb 2147483647 n ≡ t → cond t (sign 2147483647) (sign n) ≡ sign (kept n)
stopped sign n true t = ap sign (omega (arith, ltb-true 2147483647 n t))
stopped sign n false t = ap sign (omega (arith, ltb-false 2147483647 n t))

settled-natural : (n : ℕ) → settled (pos n) ≡ pos (kept n)
unfolding settled
settled-natural n = stopped pos n _ refl

settled-negative : (n : ℕ) → settled (negsuc n) ≡ negsuc (kept n)
unfolding settled
settled-negative n = stopped negsuc n _ refl

pub settled-fits : (z : ℤ) → SFits w32 (settled z)
settled-fits (pos n) = rw (settled-natural n) (record { sfits = omega arith })
settled-fits (negsuc n) = rw (settled-negative n) (record { sfits = omega arith })

-- inside the range it is the result itself
pub settled-inside : (z : ℤ) → SFits w32 z → settled z ≡ z
settled-inside (pos n) f = settled-natural n ∙ ap pos (omega (arith, f.sfits))
settled-inside (negsuc n) f = settled-negative n ∙ ap negsuc (omega (arith, f.sfits))

-- above it the upper end, below it the lower
pub settled-above : (z : ℤ) → greatest <ℤ z → settled z ≡ greatest
settled-above (pos n) h = settled-natural n ∙ ap pos (omega (arith, ltb→lt 2147483647 n h.lt))
settled-above (negsuc n) h = absurd h.lt

pub settled-below : (z : ℤ) → z <ℤ least → settled z ≡ least
settled-below (pos n) h = absurd h.lt
settled-below (negsuc n) h = settled-negative n ∙ ap negsuc (omega (arith, ltb→lt 2147483647 n h.lt))

-- The settled number is as far from the result as the result passes the end; every number of 32 bits is that far at least.
settled-distance : (z : ℤ) → distance z (settled z) ≡ mag z - 2147483647
settled-distance (pos n) = rw (settled-natural n) (between-naturals n (kept n) ∙ omega arith)
settled-distance (negsuc n) = rw (settled-negative n) (between-negatives n (kept n) ∙ omega arith)

far : (z x : ℤ) → SFits w32 x → mag z - 2147483647 ≤ distance z x
far (pos n) (pos m) f = rw (between-naturals n m) (omega (arith, f.sfits))
far (pos n) (negsuc m) f = omega arith
far (negsuc n) (pos m) f = rw (up-to-natural n m) (omega arith)
far (negsuc n) (negsuc m) f = rw (between-negatives n m) (omega (arith, f.sfits))

pub settled-nearest : (z : ℤ) → Nearest z (settled z)
settled-nearest z = record { fits = settled-fits z; nearest = λ x f. rw (settled-distance z) (far z x f) }

-- ... and no other number is as near
pub nearest-settled : (z y : ℤ) → Nearest z y → y ≡ settled z
nearest-settled z y h = go z y h.fits (rw (settled-distance z) at (h.nearest (settled z) (settled-fits z)))
  where
    go : (z y : ℤ) → SFits w32 y → distance z y ≤ mag z - 2147483647 → y ≡ settled z
    go (pos n) (pos m) f l = ap pos (omega (arith, rw (between-naturals n m) at l, f.sfits)) ∙ sym (settled-natural n)
    go (pos n) (negsuc m) f l = absurd (omega (arith, l))
    go (negsuc n) (pos m) f l = absurd (omega (arith, rw (up-to-natural n m) at l))
    go (negsuc n) (negsuc m) f l = ap negsuc (omega (arith, rw (between-negatives n m) at l, f.sfits)) ∙ sym (settled-negative n)

-- a greater result settles as a greater number, or the same
pub settled_monotone : (y z : ℤ) → y ≤ℤ z → settled y ≤ℤ settled z
settled_monotone (pos m) (pos n) h =
    let l : kept m ≤ kept n = omega (arith, leb→le m n h.le) in
    rw (settled-natural m, settled-natural n) (record { le = le→leb (kept m) (kept n) l })
settled_monotone (pos m) (negsuc n) h = absurd h.le
settled_monotone (negsuc m) (pos n) h = rw (settled-negative m, settled-natural n) (record { le = tt })
settled_monotone (negsuc m) (negsuc n) h =
    let l : kept n ≤ kept m = omega (arith, leb→le n m h.le) in
    rw (settled-negative m, settled-negative n) (record { le = le→leb (kept n) (kept m) l })

-- a full register stays full, whatever is counted further, in both directions
pub full-stays-above : (n : ℕ) → settled (greatest +ℤ pos n) ≡ greatest
full-stays-above n = settled-natural (2147483647 + n) ∙ ap pos (omega arith)

pub full-stays-below : (n : ℕ) → settled (least -ℤ pos n) ≡ least
full-stays-below zero = settled-negative 2147483647
full-stays-below (suc n) = settled-negative (suc (2147483647 + n)) ∙ ap negsuc (omega arith)
