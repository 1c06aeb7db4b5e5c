-- What the two calls leave side by side, and what demand 3 asks and promises of them.
use Rattle.std.specs.Prelude.{Option, Some, None, Ok, Err, ℕ, suc, ◌≤◌, ◌≡◌, List}
use Rattle.sheet.specs.Outcomes.{result}
use Rattle.sheet.specs.Memory.{memory_bytes}
use Rattle.sheet.specs.Rows.{row_bytes}
use Rattle.kernel.specs.Instants.{wire_count, next_memory, output_row}
use Rattle.kernel.specs.Schedules.{IsSchedule}
use Rattle.kernel.specs.Calls.{Given, given_of, InstantCall}
use Rattle.kernel.proofs.Laws.Demands.{given_finished, given_rounds}
use Rattle.kernel.specs.Answers.{InRounds, Scheduled}

-- the rounds, where neither answer is a refusal
abbrev pub both_answers : InRounds → Scheduled → Option ℕ
both_answers (Err refused) along = None
both_answers (Ok rounds) (Err refused) = None
both_answers (Ok rounds) (Ok accepted) = Some rounds

-- what the two calls answer and leave, on any buffers
pub record Beside (first : InstantCall InRounds) (second : InstantCall Scheduled) (answer : Option ℕ) (memory output copy other : List ℕ)
    : Type 0 where
  pub answers : answer ≡ both_answers first.answer second.answer
  pub in_rounds : (memory ≡ first.memory) × (output ≡ first.output)
  pub along : (copy ≡ second.memory) × (other ≡ second.output)

-- two copies of one memory and two output rows that pass 1 to 16, and a list as demand 3 has it
pub record BothGiven (s memory input output copy other list : List ℕ) : Type 0 where
  pub given : Given
  pub second : Given
  pub copied : copy ≡ memory
  pub passes : given_of s memory input output ≡ result given
  pub other_passes : given_of s copy input other ≡ result second
  pub schedule : IsSchedule given.sheet list

-- both are accepted, after at most one round more than there are wires, and leave the bytes that the finished values set
pub record Agreed (given : Given) (answer : Option ℕ) (memory output copy other : List ℕ) : Type 0 where
  pub both : answer ≡ Some (given_rounds given)
  pub few : given_rounds given ≤ suc (wire_count given.sheet)
  pub memories : copy ≡ memory
  pub outputs : other ≡ output
  pub stores : memory ≡ memory_bytes (next_memory given.sheet given.inputs given.memory (given_finished given))
  pub writes : output ≡ row_bytes (output_row given.sheet (given_finished given))
