-- A board: a count byte, then for each sheet two bytes of length, low first, and the sheet. Its frame is read first, with refusal 22, and then
-- each sheet in board order, with its 1 to 11 at places counted in the board.
use Rattle.std.specs.Prelude.{ℕ, zero, suc, ◌+◌, ◌*◌, Bool, ◌||◌, cond, List, [], ◌∷◌, length, take, drop, get_or, ltb}
use Rattle.sheet.specs.Outcomes.{Outcome, refusal, result, followed_by, lowest}
use Rattle.sheet.specs.Sheets.{Sheet, sheet_of}
use Rattle.sheet.specs.declared.Refusal.TheVariants.{BoardFrame}

-- a refusal with its place counted in the board, of a sheet that begins there
abbrev pub placed_from : {A : Type 0} → (begin : ℕ) → Outcome A → Outcome A
placed_from begin (refusal why place) = refusal why (begin + place)
placed_from begin (result a) = result a

module _ (board : List ℕ) where
  -- the count byte; where it is missing it counts as 0
  abbrev pub count_byte : ℕ
  count_byte = get_or board 0 0

  -- the length of a sheet, from its two bytes; what is missing counts as 0, as the sheet then runs past the end
  abbrev pub length_at : ℕ → ℕ
  length_at at = get_or board at 0 + 256 * get_or board (at + 1) 0

  -- where the length of the sheet with number k stands, and so where the sheet before it ends
  unfoldable pub length_place : ℕ → ℕ
  length_place zero = 1
  length_place (suc k) = length_place k + 2 + length_at (length_place k)

  -- where the sheet itself begins, and its bytes
  abbrev pub begin_of : ℕ → ℕ
  begin_of k = length_place k + 2

  abbrev pub bytes_of : ℕ → List ℕ
  bytes_of k = take (length_at (length_place k)) (drop (begin_of k) board)

  -- the length is cut, or it runs past the end
  abbrev pub runs_past : ℕ → Bool
  runs_past k = ltb (length board) (length_place (suc k))

  -- how many sheets there are, 1 to 8, or 22: at the count, at the first length that runs past the end, or at the first byte left over
  unfoldable pub frame_of : Outcome ℕ
  frame_of =
      cond (ltb count_byte 1 || ltb 8 count_byte) (refusal BoardFrame 0)
      (cond (ltb (lowest runs_past count_byte) count_byte) (refusal BoardFrame (length_place (lowest runs_past count_byte)))
      (cond (ltb (length_place count_byte) (length board)) (refusal BoardFrame (length_place count_byte))
      (result count_byte)))

  -- n sheets from number k on, or the first refusal 1 to 11
  unfoldable pub sheets_from : (n k : ℕ) → Outcome (List Sheet)
  sheets_from zero k = result []
  sheets_from (suc n) k =
      followed_by (placed_from (begin_of k) (sheet_of (bytes_of k))) (λ sheet.
      followed_by (sheets_from n (suc k)) (λ sheets.
      result (sheet ∷ sheets)))

  -- the sheets of a board, or 22, or 1 to 11
  unfoldable pub board_of : Outcome (List Sheet)
  board_of = followed_by frame_of (λ n. sheets_from n 0)
