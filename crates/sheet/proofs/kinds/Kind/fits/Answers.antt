-- `fits` meets its contract: a digit has a bit for each type that fits. Assumes nothing.
use Prim.Native.Nat.{ℕ, zero, suc, ◌/◌, ◌%◌, ◌^◌, ◌<◌}
use mathlib.Core.Path.{◌≡◌, refl}
use mathlib.Core.Bool.{Bool, true, false, beq}
use native.Mathlib.Omega.{arith}
use lib.Dec.{eqb}
use Rattle.sheet.specs.Kinds.{kind_count, own_type_of, typed, digit_of}
use Rattle.sheet.specs.Laws.Lists.{never}
use Rattle.sheet.specs.KindBytes.{byte_of}
use Rattle.sheet.proofs.Table.{passes, passes_at, byte_few}
use Rattle.sheet.proofs.kinds.Kind.fits.Goals as goal

module _ (column asked : ℕ) where
  abbrev fitting : ℕ → Bool
  fitting k = eqb (digit_of column k / 2 ^ asked % 2) 1

  abbrev is_fitting : ℕ → Bool
  is_fitting k = beq (fitting k) (eqb (typed asked (own_type_of k)) asked)

  fitting-is : passes is_fitting kind_count ≡ true → (k : ℕ) → k < kind_count → fitting k ≡ eqb (typed asked (own_type_of k)) asked
  fitting-is e k l = same (fitting k) _ (passes_at is_fitting kind_count e k l)
    where
      same : (a b : Bool) → beq a b ≡ true → a ≡ b
      same true true e = refl
      same true false e = never (cc)
      same false true e = never (cc)
      same false false e = refl

-- for a Boolean and for a number
both-fitting : (asked : ℕ) → asked < 2 → (k : ℕ) → k < kind_count
    → fitting 0o30321333112211210021 asked k ≡ eqb (typed asked (own_type_of k)) asked
unfolding passes
both-fitting zero l = fitting-is 0o30321333112211210021 0 refl
both-fitting (suc zero) l = fitting-is 0o30321333112211210021 1 refl
both-fitting (suc (suc asked)) l = absurd (omega arith)

pub returns : goal.returns
returns c = rw c.digit.ensures (both-fitting c.args.asked c.requires (byte_of c.args.self) (byte_few c.args.self))
