-- Worked cases: numbers at the ends of the range, and an output row.
use Rattle.std.specs.Prelude.{◌≡◌, refl, [], ◌∷◌, pos, negsuc}
use Rattle.text.specs.Digits.{spelled, digits, decimal}
use Rattle.text.specs.Pieces.{numbers_of}

-- numbers from the least to the largest
ends :
    decimal (negsuc 2147483647)
    ∷ decimal (negsuc 0)
    ∷ decimal (pos 0)
    ∷ decimal (pos 10)
    ∷ decimal (pos 100)
    ∷ decimal (pos 2147483647)
    ∷ []
    ≡ (45 ∷ 50 ∷ 49 ∷ 52 ∷ 55 ∷ 52 ∷ 56 ∷ 51 ∷ 54 ∷ 52 ∷ 56 ∷ [])
    ∷ (45 ∷ 49 ∷ [])
    ∷ (48 ∷ [])
    ∷ (49 ∷ 48 ∷ [])
    ∷ (49 ∷ 48 ∷ 48 ∷ [])
    ∷ (50 ∷ 49 ∷ 52 ∷ 55 ∷ 52 ∷ 56 ∷ 51 ∷ 54 ∷ 52 ∷ 55 ∷ [])
    ∷ []
unfolding decimal digits spelled
ends = refl

-- an output row of 258 and -2
row_read : numbers_of (2 ∷ 1 ∷ 0 ∷ 0 ∷ 254 ∷ 255 ∷ 255 ∷ 255 ∷ []) ≡ pos 258 ∷ negsuc 1 ∷ []
unfolding numbers_of
row_read = refl
