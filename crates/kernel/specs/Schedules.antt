-- Schedules: the checks 17 to 19 of a list, and the one pass along it.
use Rattle.std.specs.Prelude.{◌≡◌, ℕ, ◌<◌, Bool, not, ◌||◌, List, [], ◌∷◌, ltb, length, set, get_or, take}
use Rattle.sheet.specs.Outcomes.{Outcome, result, unless_length, unless_any}
use Rattle.sheet.specs.Sheets.{Sheet}
use Rattle.sheet.specs.declared.Datum.{Datum}
use Rattle.sheet.specs.declared.Cell.{Cell}
use Rattle.sheet.specs.declared.Refusal.TheVariants.{ScheduleLength, ScheduleEntry, ScheduleOrder}
use Rattle.kernel.specs.Order.{all_unknown}
use Rattle.sheet.specs.Lists.{among, all_among, Every}
use Rattle.kernel.specs.Instants.{wire_count, reads_at, value_of_wire, under}
use Rattle.kernel.specs.declared.Value.{Value}

module _ (list : List ℕ) where
  abbrev pub entry_at : ℕ → ℕ
  entry_at p = get_or list p 0

  -- the entry at a position is none of n wires, or named before
  unfoldable pub not_new : ℕ → ℕ → Bool
  not_new n p = not (ltb (entry_at p) n) || among (entry_at p) (take p list)

  -- its wire reads, within the instant, itself or a wire not earlier in the list
  unfoldable pub too_early : (ℕ → List ℕ) → ℕ → Bool
  too_early reads_of p = not (all_among (reads_of (entry_at p)) (take p list))

-- a list that passes, or 17, 18 or 19
unfoldable pub schedule_of : Sheet → List ℕ → Outcome (List ℕ)
schedule_of sheet list =
    unless_length ScheduleLength (length list) (wire_count sheet)
    (unless_any ScheduleEntry (not_new list (wire_count sheet)) (wire_count sheet)
    (unless_any ScheduleOrder (too_early list (reads_at sheet.expressions)) (wire_count sheet)
    (result list)))

-- a position before p names w
pub record Earlier (list : List ℕ) (p w : ℕ) : Type 0 where
  pub position : ℕ
  pub before : position < p
  pub names : entry_at list position ≡ w

-- a list as demand 3 has it, which is just what passes: it names each wire, once, and nothing else, and every wire after all the wires
-- that it reads within the instant
pub record IsSchedule (sheet : Sheet) (list : List ℕ) : Type 0 where
  pub named : (w : ℕ) → w < wire_count sheet → Earlier list (length list) w
  pub once : (p q : ℕ) → p < q → q < length list → entry_at list p ≡ entry_at list q → ⊥
  pub wires : (p : ℕ) → p < length list → entry_at list p < wire_count sheet
  pub ordered : (p : ℕ) → p < length list → Every (Earlier list p) (reads_at sheet.expressions (entry_at list p))

module _ (sheet : Sheet) (inputs : List Datum) (memory : List Cell) where
  -- at each position the wire gets what its expression yields under the values so far
  unfoldable pub pass_from : List Value → List ℕ → List Value
  pass_from wires [] = wires
  pass_from wires (w ∷ ws) = pass_from (set wires w (value_of_wire (under sheet inputs memory wires) sheet.expressions 0 w)) ws

  -- all wires begin unknown
  unfoldable pub pass : List ℕ → List Value
  pass = pass_from (all_unknown (wire_count sheet))
