-- Numbers after a space, and the numbers of an output row.
use Rattle.std.specs.Prelude.{ℕ, List, [], ◌∷◌, ◌++◌, ℤ}
use Rattle.std.specs.Int.{w32}
use Rattle.std.proofs.Common.{to_z}
use Rattle.numbers.specs.Words.{word_at}
use Rattle.text.specs.Digits.{digits, decimal}

-- a number after a space
unfoldable pub spaced : ℕ → List ℕ
spaced n = 32 ∷ digits n

-- each signed number after a space
unfoldable pub spaced_all : List ℤ → List ℕ
spaced_all [] = []
spaced_all (z ∷ zs) = 32 ∷ decimal z ++ spaced_all zs

-- the numbers of an output row as the library writes it: four bytes for each, lowest first, in two's complement; fewer bytes are none
unfoldable pub numbers_of : List ℕ → List ℤ
numbers_of [] = []
numbers_of (_ ∷ []) = []
numbers_of (_ ∷ _ ∷ []) = []
numbers_of (_ ∷ _ ∷ _ ∷ []) = []
numbers_of (a ∷ b ∷ c ∷ d ∷ rest) = to_z w32 (word_at (a ∷ b ∷ c ∷ d ∷ []) 0) ∷ numbers_of rest
