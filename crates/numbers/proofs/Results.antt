-- Sums, differences and opposites of 32-bit numbers fit 64 bits.
use Prim.Native.Nat.{ℕ, zero, suc, ◌-◌, ◌<◌}
use mathlib.Core.Path.{◌≡◌, refl, ◌∙◌}
use mathlib.Core.Bool.{Bool, true, false, cond}
use native.Mathlib.Omega.{arith}
use lib.Dec.{ltb}
use lib.IntN.{ℤ, pos, negsuc, neg_ℤ, ◌+ℤ◌, ◌-ℤ◌}
use mir.Syntax.{w32, w64}
use mir.Val.{SFits, of_z, to_z}
use mir.Facts.{to_z-of_z, sfits_widen}
use borrow.Author.Tests.{ltb-true, ltb-false}

-- m - n of two magnitudes up to 2 ^ 31
by_sign : (m n : ℕ) → m < 2147483649 → n < 2147483649 → (t : Bool) → ltb m n ≡ t
    → SFits w64 (cond t (negsuc (n - suc m)) (pos (m - n)))
by_sign m n f g true t = record { sfits = omega (arith, ltb-true m n t) }
by_sign m n f g false t = record { sfits = omega (arith, ltb-false m n t) }

pub sum_fits : (a b : ℤ) → SFits w32 a → SFits w32 b → SFits w64 (a +ℤ b)
sum_fits (pos m) (pos n) f g = record { sfits = omega (arith, f.sfits, g.sfits) }
sum_fits (pos m) (negsuc n) f g = by_sign m (suc n) (omega (arith, f.sfits)) (omega (arith, g.sfits)) (ltb m (suc n)) refl
sum_fits (negsuc m) (pos n) f g = by_sign n (suc m) (omega (arith, g.sfits)) (omega (arith, f.sfits)) (ltb n (suc m)) refl
sum_fits (negsuc m) (negsuc n) f g = record { sfits = omega (arith, f.sfits, g.sfits) }

pub difference-fits : (a b : ℤ) → SFits w32 a → SFits w32 b → SFits w64 (a -ℤ b)
difference-fits a (pos zero) f g = sum_fits a (pos zero) f g
difference-fits a (pos (suc n)) f g = sum_fits a (negsuc n) f (record { sfits = omega (arith, g.sfits) })
difference-fits (pos m) (negsuc n) f g = record { sfits = omega (arith, f.sfits, g.sfits) }
difference-fits (negsuc m) (negsuc n) f g =
    by_sign (suc n) (suc m) (omega (arith, g.sfits)) (omega (arith, f.sfits)) (ltb (suc n) (suc m)) refl

-- a number, cast to 64 bits
pub widens : {z : ℤ} → SFits w32 z → SFits w64 (to_z w32 (of_z w32 z))
widens f = rw (to_z-of_z f) (sfits_widen tt f)

pub widened : {z : ℤ} → SFits w32 z → to_z w64 (of_z w64 (to_z w32 (of_z w32 z))) ≡ z
widened f = to_z-of_z {w = w64} (widens f) ∙ to_z-of_z f

pub opposite_fits : (a : ℤ) → SFits w32 a → SFits w64 (neg_ℤ a)
opposite_fits (pos zero) f = record { sfits = omega arith }
opposite_fits (pos (suc n)) f = record { sfits = omega (arith, f.sfits) }
opposite_fits (negsuc n) f = record { sfits = omega (arith, f.sfits) }
