-- The numbers that wires carry, as whole numbers. A result that 32 bits may not hold is settled here and nowhere else.
use Rattle.std.specs.Prelude.{Bool, false, cond, eqb, ℤ, pos, negsuc, neg_ℤ}
use Rattle.std.specs.Int.Signed.{lt_z}

-- the ends of a register of 32 bits
abbrev pub greatest : ℤ
greatest = pos 2147483647

abbrev pub least : ℤ
least = neg_ℤ (pos 2147483648)

-- document 02, K2: a result stops at the ends
unfoldable pub settled : ℤ → ℤ
settled z = cond (lt_z greatest z) greatest (cond (lt_z z least) least z)

-- whether two numbers are the same
unfoldable pub equals : ℤ → ℤ → Bool
equals (pos m) (pos n) = eqb m n
equals (pos m) (negsuc n) = false
equals (negsuc m) (pos n) = false
equals (negsuc m) (negsuc n) = eqb m n
