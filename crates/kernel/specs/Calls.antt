-- The two instants as calls: from all buffers to the answer and what the buffers hold, refusals included.
use Rattle.std.specs.Prelude.{ℕ, ◌*◌, ◌<◌, ◌≡◌, Bool, cond, List, Ok, Err, ltb, length}
use Rattle.sheet.specs.Outcomes.{Outcome, refusal, result, answer_of, done_of, followed_by, holds_after, lowest, unless_length, packed_answer}
use Rattle.sheet.specs.Sheets.{Sheet, sheet_forms, sheet_of}
use Rattle.sheet.specs.Memory.{memory_of, memory_bytes}
use Rattle.sheet.specs.Rows.{inputs_of, row_bytes}
use Rattle.sheet.specs.declared.Datum.{Datum}
use Rattle.sheet.specs.declared.Cell.{Cell}
use Rattle.sheet.specs.declared.Refusal.TheVariants.{OutputLength, StaysUnknown}
use Rattle.kernel.specs.Values.{is_unknown}
use Rattle.kernel.specs.Order.{value_at}
use Rattle.kernel.specs.Instants.{wire_count, under, rounds, finished, next_memory, output_row}
use Rattle.kernel.specs.Waits.{lowest_waiting}
use Rattle.kernel.specs.Schedules.{schedule_of, pass}
use Rattle.kernel.specs.declared.Value.{Value}
use Rattle.kernel.specs.Answers.{InRounds, Scheduled}

-- what an instant works on once 1 to 16 are passed
pub record Given : Type 0 where
  pub sheet : Sheet
  pub inputs : List Datum
  pub memory : List Cell

-- the sheet, the memory, the input row and the output row, or the first refusal 1 to 16
unfoldable pub given_of : (s memory input output : List ℕ) → Outcome Given
given_of s memory input output =
    followed_by (sheet_of s) (λ sheet.
    followed_by (memory_of (sheet_forms sheet) memory) (λ cells.
    followed_by (inputs_of sheet.input_types input) (λ inputs.
    unless_length OutputLength (length output) (4 * length sheet.outputs)
    (result (record { sheet = sheet; inputs = inputs; memory = cells })))))

-- 20 comes where one of the n wires stays unknown
unfoldable pub any_unknown : ℕ → List Value → Bool
any_unknown n wires = ltb (lowest (λ w. is_unknown (value_at wires w)) n) n

-- the place of 20: the lowest wire that waits for itself, directly or through others (document 02, K5)
unfoldable pub place_of_loop : Given → List Value → ℕ
place_of_loop given wires = lowest_waiting (under given.sheet given.inputs given.memory wires) given.sheet.expressions

-- what an accepted instant gives: the rounds, of which a schedule makes none, and what it writes
pub record Accepted : Type 0 where
  pub rounds : ℕ
  pub memory : List ℕ
  pub output : List ℕ

-- from the finished values: 20, or outputs and next memory
unfoldable pub accepted_of : Given → (rounds : ℕ) → List Value → Outcome Accepted
accepted_of given rounds wires =
    cond (any_unknown (wire_count given.sheet) wires) (refusal StaysUnknown (place_of_loop given wires))
    (result (record {
      rounds = rounds;
      memory = memory_bytes (next_memory given.sheet given.inputs given.memory wires);
      output = row_bytes (output_row given.sheet wires);
    }))

unfoldable pub in_rounds : Given → Outcome Accepted
in_rounds given =
    accepted_of given (rounds given.sheet given.inputs given.memory) (finished given.sheet given.inputs given.memory)

unfoldable pub scheduled : Given → (list : List ℕ) → Outcome Accepted
scheduled given list =
    followed_by (schedule_of given.sheet list) (λ order.
    accepted_of given 0 (pass given.sheet given.inputs given.memory order))

-- what the call of an instant leaves
pub record InstantCall (Answer : Type 0) : Type 0 where
  pub answer : Answer
  pub memory : List ℕ
  pub output : List ℕ

-- an answer and an output row are those of the call
pub record Shows {Answer : Type 0} (call : InstantCall Answer) (answer : Answer) (output : List ℕ) : Type 0 where
  pub answers : answer ≡ call.answer
  pub writes : output ≡ call.output

-- an answer, a memory and an output row are those of the call
pub record Leaves {Answer : Type 0} (call : InstantCall Answer) (answer : Answer) (memory output : List ℕ) : Type 0 where
  pub answers : answer ≡ call.answer
  pub stores : memory ≡ call.memory
  pub writes : output ≡ call.output

abbrev pub left_by : {Answer : Type 0} → (Outcome Accepted → Answer) → Outcome Accepted → (memory output : List ℕ) → InstantCall Answer
left_by answer o memory output =
    record { answer = answer o; memory = holds_after o (λ a. a.memory) memory; output = holds_after o (λ a. a.output) output }

abbrev pub rounds_answer : Outcome Accepted → InRounds
rounds_answer o = answer_of (followed_by o (λ a. result a.rounds))

abbrev pub scheduled_answer : Outcome Accepted → Scheduled
scheduled_answer = done_of

unfoldable pub rounds_call : (s memory input output : List ℕ) → InstantCall InRounds
rounds_call s memory input output =
    left_by rounds_answer (followed_by (given_of s memory input output) in_rounds) memory output

unfoldable pub scheduled_call : (s memory input output list : List ℕ) → InstantCall Scheduled
scheduled_call s memory input output list =
    left_by scheduled_answer (followed_by (given_of s memory input output) (λ given. scheduled given list)) memory output

-- the numbers that the C library returns: the rounds, and 0
abbrev pub packed_rounds : InRounds → ℕ
packed_rounds = packed_answer (λ rounds. rounds)

-- place and rounds have room in such a number
abbrev pub Packable : InRounds → Type 0
Packable (Err refused) = refused.place < 65536
Packable (Ok rounds) = rounds < 65536

abbrev pub packed_scheduled : Scheduled → ℕ
packed_scheduled = packed_answer (λ accepted. 0)
