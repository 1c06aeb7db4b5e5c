-- What the bits of two numbers say: whether they are the same.
use Prim.Native.Nat.{suc, ◌-◌}
use mathlib.Core.Path.{◌≡◌, refl}
use mathlib.Core.Bool.{Bool, true, false}
use native.Mathlib.Omega.{arith}
use lib.Dec.{eqb}
use lib.IntN.{ℤ, pos, negsuc}
use mir.Syntax.{w32}
use mir.Val.{SFits, of_z}
use borrow.Author.Tests.{eq-eqb, ne_eqb, eqb-true, eqb-false}
use Rattle.numbers.specs.Numbers.{equals}

-- two numbers are the same where their bits are
pub same : (a b : ℤ) → SFits w32 a → SFits w32 b → eqb (of_z w32 a) (of_z w32 b) ≡ equals a b
unfolding equals
same (pos m) (pos n) f g = refl
same (pos m) (negsuc n) f g = ne_eqb _ _ (λ (e : m ≡ 4294967296 - suc n). omega (arith, f.sfits, g.sfits))
same (negsuc m) (pos n) f g = ne_eqb _ _ (λ (e : 4294967296 - suc m ≡ n). omega (arith, f.sfits, g.sfits))
same (negsuc m) (negsuc n) f g = go (eqb m n) refl
  where
    go : (t : Bool) → eqb m n ≡ t → eqb (4294967296 - suc m) (4294967296 - suc n) ≡ t
    go true t = eq-eqb (4294967296 - suc m) (4294967296 - suc n) (omega (arith, eqb-true m n t))
    go false t =
        ne_eqb _ _ (λ (e : 4294967296 - suc m ≡ 4294967296 - suc n). eqb-false m n t (omega (arith, f.sfits, g.sfits)))
