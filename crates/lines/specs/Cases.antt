-- Worked cases, line by line: what document 01 prints for its quarter sheet, and the two other lines.
use Rattle.std.specs.Prelude.{◌≡◌, refl, [], ◌∷◌, pos, negsuc}
use Rattle.text.specs.Digits.{spelled, digits, decimal}
use Rattle.text.specs.Pieces.{spaced, spaced_all}
use Rattle.lines.specs.Lines.{short_line, refused_line, sheet_line, left_line, row_line}

-- the block of the quarter sheet
quarter :
    sheet_line 2 2 2 2
    ∷ row_line 0 (pos 1 ∷ pos 0 ∷ [])
    ∷ row_line 1 (pos 2 ∷ pos 1 ∷ [])
    ∷ row_line 2 (pos 1 ∷ pos 2 ∷ [])
    ∷ row_line 3 (pos 1 ∷ pos 1 ∷ [])
    ∷ row_line 4 (pos 0 ∷ pos 1 ∷ [])
    ∷ left_line 0
    ∷ []
    ≡ (115 ∷ 104 ∷ 101 ∷ 101 ∷ 116 ∷ 32 ∷ 50 ∷ 32 ∷ 50 ∷ 32 ∷ 50 ∷ 32 ∷ 50 ∷ 10 ∷ [])
    ∷ (48 ∷ 32 ∷ 49 ∷ 32 ∷ 48 ∷ 10 ∷ [])
    ∷ (49 ∷ 32 ∷ 50 ∷ 32 ∷ 49 ∷ 10 ∷ [])
    ∷ (50 ∷ 32 ∷ 49 ∷ 32 ∷ 50 ∷ 10 ∷ [])
    ∷ (51 ∷ 32 ∷ 49 ∷ 32 ∷ 49 ∷ 10 ∷ [])
    ∷ (52 ∷ 32 ∷ 48 ∷ 32 ∷ 49 ∷ 10 ∷ [])
    ∷ (108 ∷ 101 ∷ 102 ∷ 116 ∷ 32 ∷ 48 ∷ 10 ∷ [])
    ∷ []
unfolding sheet_line row_line left_line spaced spaced_all decimal digits spelled
quarter = refl

-- `short`, case B of the table, and the negative output of case L
others :
    short_line
    ∷ refused_line 20 0
    ∷ row_line 0 (negsuc 5 ∷ [])
    ∷ []
    ≡ (115 ∷ 104 ∷ 111 ∷ 114 ∷ 116 ∷ 10 ∷ [])
    ∷ (114 ∷ 101 ∷ 102 ∷ 117 ∷ 115 ∷ 101 ∷ 100 ∷ 32 ∷ 50 ∷ 48 ∷ 32 ∷ 48 ∷ 10 ∷ [])
    ∷ (48 ∷ 32 ∷ 45 ∷ 54 ∷ 10 ∷ [])
    ∷ []
unfolding short_line refused_line row_line spaced spaced_all decimal digits spelled
others = refl
