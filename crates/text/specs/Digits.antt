-- Numbers as text in ASCII: decimal digits with no zero in front, and a sign where a number is below zero.
use Rattle.std.specs.Prelude.{ℕ, zero, suc, ◌+◌, ◌/◌, ◌%◌, true, false, List, [], ◌∷◌, ◌++◌, ltb, ℤ, pos, negsuc}

-- the digits of a number that has no more of them than there are steps
unfoldable pub spelled : ℕ → ℕ → List ℕ
spelled zero n = []
spelled (suc steps) n = elim (ltb n 10) [
  | true ↦ (48 + n) ∷ []
  | false ↦ spelled steps (n / 10) ++ ((48 + n % 10) ∷ [])
]

-- the digits of a number, the highest first
unfoldable pub digits : ℕ → List ℕ
digits n = spelled (suc n) n

-- a signed number: `-` and the magnitude where it is below zero (`negsuc n` is the number below zero of magnitude n + 1)
unfoldable pub decimal : ℤ → List ℕ
decimal (pos n) = digits n
decimal (negsuc n) = 45 ∷ digits (suc n)
