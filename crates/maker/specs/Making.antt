-- The maker of a schedule: the list that it makes, and the call from the sheet's bytes and the lent list, refusals included. On success it
-- reports the greatest depth too.
use Rattle.std.specs.Prelude.{ℕ, zero, suc, Bool, not, ◌&&◌, List, [], ◌∷◌, ◌++◌, length, Result, Ok, Err}
use Rattle.sheet.specs.Lists.{among, all_among}
use Rattle.sheet.specs.Outcomes.{Outcome, refusal, result, followed_by, holds_after, lowest, unless_length, unless_any, packed_refusal, refused_at}
use Rattle.sheet.specs.Sheets.{Sheet, sheet_of}
use Rattle.sheet.specs.declared.Refusal.TheVariants.{ScheduleLength, NoSchedule}
use Rattle.kernel.specs.Instants.{wire_count}
use Rattle.kernel.specs.Depths.{greatest_depth}
use Rattle.maker.specs.Reaching.{reads_of, reaches_itself}
use Rattle.sheet.specs.declared.Refused.{Refused}

module _ (reads_of : ℕ → List ℕ) where
  -- a wire that is not yet placed, and whose reads within the instant are all placed already
  unfoldable pub ready : (placed : List ℕ) → ℕ → Bool
  ready placed w = not (among w placed) && all_among (reads_of w) placed

  -- what stands on the first p positions: at every position the lowest of n wires that is ready, or n where none is
  unfoldable pub placed_by : (n p : ℕ) → List ℕ
  placed_by n zero = []
  placed_by n (suc p) = let placed = placed_by n p in placed ++ (lowest (ready placed) n ∷ [])

unfoldable pub made_list : Sheet → List ℕ
made_list sheet = placed_by (reads_of sheet) (wire_count sheet) (wire_count sheet)

-- what is made: the list, and the greatest depth that is reported with it
pub record Schedule : Type 0 where
  pub list : List ℕ
  pub depth : ℕ

abbrev pub schedule_for : Sheet → Schedule
schedule_for sheet = record { list = made_list sheet; depth = greatest_depth sheet }

-- 17 for the lent list, 21 at the lowest wire that reaches itself, or the schedule
unfoldable pub made_of : Sheet → (lent : List ℕ) → Outcome Schedule
made_of sheet lent =
    unless_length ScheduleLength (length lent) (wire_count sheet)
    (unless_any NoSchedule (reaches_itself sheet) (wire_count sheet)
    (result (schedule_for sheet)))

unfoldable pub maker_outcome : (s lent : List ℕ) → Outcome Schedule
maker_outcome s lent = followed_by (sheet_of s) (λ sheet. made_of sheet lent)

-- what the call of the maker leaves
pub record MakerCall : Type 0 where
  pub answer : Result ℕ Refused
  pub list : List ℕ

abbrev pub made_answer : Outcome Schedule → Result ℕ Refused
made_answer (refusal why place) = refused_at why place
made_answer (result made) = Ok made.depth

unfoldable pub maker_call : (s lent : List ℕ) → MakerCall
maker_call s lent =
    record { answer = made_answer (maker_outcome s lent); list = holds_after (maker_outcome s lent) (λ made. made.list) lent }

-- the answer as one number: the greatest depth, or a refusal
abbrev pub packed_made : Result ℕ Refused → ℕ
packed_made (Err r) = packed_refusal r.why r.place
packed_made (Ok depth) = depth
