-- What the frame of a board comes to, by its count and by where its sheets end.
use Prim.Native.Nat.{ℕ, suc, ◌+◌, ◌≤◌, ◌<◌}
use mathlib.Core.Path.{◌≡◌, ap, ◌∙◌}
use mathlib.Core.Bool.{true, false}
use mathlib.Core.List.{List, [], ◌∷◌}
use Rattle.std.specs.Prelude.{Ok}
use native.Mathlib.Omega.{arith}
use lib.Dec.{ltb}
use lib.ListN.{length, get_or, get_or-eq_default}
use borrow.Author.Tests.{lt-ltb, le-ltb}
use Rattle.sheet.specs.Outcomes.{answer_of, refused_at, lowest}
use Rattle.sheet.specs.Laws.Lowest.{lowest-is}
use Rattle.board.specs.Boards.{count_byte, length_at, length_place, runs_past, frame_of}
use Rattle.sheet.specs.declared.Refusal.TheVariants.{BoardFrame}

-- a board whose count is not 0 has a byte
pub some_byte : (board : List ℕ) → 1 ≤ get_or board 0 0 → 1 ≤ length board
some_byte [] l = l
some_byte (byte ∷ rest) l = omega arith

module _ (board : List ℕ) where
  -- past the end both bytes of a length are missing
  pub no_length : (at : ℕ) → length board ≤ at → 0 ≡ length_at board at
  no_length at l = omega (arith, get_or-eq_default board 0 {n = at} l, get_or-eq_default board 0 {n = at + 1} (omega arith))

  -- the count is none of 1 to 8
  pub count_none : (count : ℕ) → count ≡ count_byte board → count < 1 → refused_at BoardFrame 0 ≡ answer_of (frame_of board)
  unfolding frame_of
  count_none count is l = rw (← is, lt-ltb count 1 l)

  pub count-above : (count : ℕ) → count ≡ count_byte board → 8 < count → refused_at BoardFrame 0 ≡ answer_of (frame_of board)
  unfolding frame_of
  count-above count is l = rw (← is, le-ltb count 1 (omega arith), lt-ltb 8 count l)

  -- where the sheet behind a length ends, and whether it runs past the end
  pub next_place : (k at long : ℕ) → at ≡ length_place board k → long ≡ 2 + length_at board at → at + long ≡ length_place board (suc k)
  unfolding length_place
  next_place k at long here e = rw (e, here) (omega arith)

  pub runs_past_lem : (k at long : ℕ) → at ≡ length_place board k → long ≡ 2 + length_at board at → length board < at + long
      → runs_past board k ≡ true
  runs_past_lem k at long here e past = rw (← next_place k at long here e) (lt-ltb (length board) (at + long) past)

  pub stays_within : (k at long : ℕ) → at ≡ length_place board k → long ≡ 2 + length_at board at → at + long ≤ length board
      → runs_past board k ≡ false
  stays_within k at long here e l = rw (← next_place k at long here e) (le-ltb (length board) (at + long) l)

  module _ (count k at : ℕ) (least : 1 ≤ count) (most : count ≤ 8) (is : count ≡ count_byte board) (below : k ≤ count)
      (here : at ≡ length_place board k) (first : (j : ℕ) → j < k → runs_past board j ≡ false) where
    -- a sheet runs past the end
    pub sheet-past : k < count → runs_past board k ≡ true → refused_at BoardFrame at ≡ answer_of (frame_of board)
    unfolding frame_of
    sheet-past l past =
        rw (
          ← is,
          le-ltb count 1 least,
          le-ltb 8 count most,
          ← lowest-is (runs_past board) count k below (λ _. past) first,
          lt-ltb k count l,
          here,
        )

    module _ (all : count ≤ k) where
      ends : at ≡ length_place board count
      ends = let same : k ≡ count = omega arith in here ∙ ap (length_place board) same

      none-past : ltb (lowest (runs_past board) count) count ≡ false
      none-past = rw (← lowest-is (runs_past board) count k below (λ l. absurd (omega arith)) first) (le-ltb k count all)

      -- bytes are left over
      pub left_over : at < length board → refused_at BoardFrame at ≡ answer_of (frame_of board)
      unfolding frame_of
      left_over l =
          rw (← is, le-ltb count 1 least, le-ltb 8 count most, none-past, ← ends, lt-ltb at (length board) l)

      -- the last sheet ends at the end
      pub nothing-over : length board ≤ at → Ok count ≡ answer_of (frame_of board)
      unfolding frame_of
      nothing-over l =
          rw (← is, le-ltb count 1 least, le-ltb 8 count most, none-past, ← ends, le-ltb at (length board) l)
