-- The lines that the player prints, each with the newline that ends it.
use Rattle.std.specs.Prelude.{ℕ, List, [], ◌∷◌, ◌++◌, ℤ}
use Rattle.text.specs.Digits.{digits}
use Rattle.text.specs.Pieces.{spaced, spaced_all}

-- the end of a line
abbrev pub newline : List ℕ
newline = 10 ∷ []

-- `short`
unfoldable pub short_line : List ℕ
short_line = 115 ∷ 104 ∷ 111 ∷ 114 ∷ 116 ∷ newline

-- `refused`, the refusal's number and its place
unfoldable pub refused_line : ℕ → ℕ → List ℕ
refused_line number place = (114 ∷ 101 ∷ 102 ∷ 117 ∷ 115 ∷ 101 ∷ 100 ∷ []) ++ spaced number ++ spaced place ++ newline

-- `sheet` and the four counts
unfoldable pub sheet_line : ℕ → ℕ → ℕ → ℕ → List ℕ
sheet_line inputs wires outputs cells =
    (115 ∷ 104 ∷ 101 ∷ 101 ∷ 116 ∷ []) ++ spaced inputs ++ spaced wires ++ spaced outputs ++ spaced cells ++ newline

-- `left` and the count of bytes not used
unfoldable pub left_line : ℕ → List ℕ
left_line left = (108 ∷ 101 ∷ 102 ∷ 116 ∷ []) ++ spaced left ++ newline

-- a row: the instant's number, then the outputs
unfoldable pub row_line : ℕ → List ℤ → List ℕ
row_line instant outputs = digits instant ++ spaced_all outputs ++ newline
