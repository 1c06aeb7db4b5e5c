-- Document 01's cases A to L, and those of document 02 about the instants, as one table: the sheet's bytes, the input rows of one
-- instant after the other, what each instant gives, lists with what the scheduled instant answers, and the greatest depth. One test
-- runs a row through the outcomes of the calls, and it holds of every row.
use Rattle.std.specs.Prelude.{ℕ, ◌+◌, ◌*◌, ◌≡◌, refl, Bool, true, false, ◌&&◌, ◌||◌, cond, List, [], ◌∷◌, ◌++◌, map, eqb, ℤ, pos, neg_ℤ, length, replicate}
use Rattle.numbers.specs.Numbers.{settled, equals}
use Rattle.sheet.specs.Examples.{quarter_bytes}
use Rattle.sheet.specs.Outcomes.{Outcome, refusal, result, lowest}
use Rattle.sheet.specs.Sheets.{Sheet, check_of, sheet_of, forms_of, kept_count, read_wires, outputs_from, wires_from, read_sheet}
use Rattle.sheet.specs.Memory.{memory_bytes, start_call, packed_started, invalid_at, cells_from, memory_of, start_memory, start_outcome}
use Rattle.sheet.specs.Rows.{row_bytes, wrong_at, data_from, inputs_of}
use Rattle.sheet.specs.Expressions.{cell_forms, cell_count}
use Rattle.sheet.specs.Kinds.{meaning_of, operands_of}
use Rattle.sheet.specs.Readings.{read_each, names_of, body_from, own_of, read_expression}
use Rattle.sheet.specs.Headers.{field_of, bytes_of, section_of}
use Rattle.sheet.specs.Lists.{among, all_among}
use Rattle.sheet.specs.Reads.{wires_read}
use Rattle.sheet.specs.declared.Datum.TheVariants.{Boolean, Number}
use Rattle.sheet.specs.declared.Cell.{Cell}
use Rattle.sheet.specs.declared.Cell.TheVariants.{NotStarted, Started}
use Rattle.closure.specs.Closures.{through, lowest_loop}
use Rattle.kernel.specs.Depths.{greatest_depth, deepest, depth_within, depth_of, wires_below}
use Rattle.kernel.specs.Calls.{InstantCall, rounds_call, scheduled_call, packed_rounds, packed_scheduled}
use Rattle.kernel.specs.Calls.{given_of, any_unknown, place_of_loop, accepted_of, in_rounds, scheduled}
use Rattle.kernel.specs.Equality.{same_datum, same_value, same_values}
use Rattle.kernel.specs.Instant.{value, resting, stored}
use Rattle.kernel.specs.Waits.{wires_awaited, waits_for, lowest_waiting}
use Rattle.kernel.specs.Instants.{reads_at, value_of_wire, values, stored_cells, lasts_from, round, rounds, finished, next_memory, output_row}
use Rattle.kernel.specs.Schedules.{not_new, too_early, schedule_of, pass_from, pass}
use Rattle.kernel.specs.Systems as System
use Rattle.kernel.specs.Answers.{InRounds}
use Rattle.sheet.specs.declared.Counts.{Counts}
use Rattle.sheet.specs.declared.Refused.{Refused}
use Rattle.std.specs.Prelude.{Ok, Err}
use Rattle.std.specs.Prelude.{Result}

-- what an instant in rounds gives: the rounds and the outputs, or a refusal's number and place
pub data Expected : Type 0 where
  accepts : (rounds : ℕ) → List ℤ → Expected
  refuses : (number place : ℕ) → Expected

-- an input row, and what the instant gives for it
pub data Step : Type 0 where
  step : List ℤ → Expected → Step

-- a list, and the number that the scheduled instant returns for it at every step
pub data Along : Type 0 where
  along : (list : List ℕ) → (packed : ℕ) → Along

pub record Case : Type 0 where
  pub sheet : List ℕ
  pub steps : List Step
  pub lists : List Along
  -- 0 where the row says nothing of it
  pub depth : ℕ

-- The test of a row.
unfoldable pub same_bytes : List ℕ → List ℕ → Bool
same_bytes [] [] = true
same_bytes [] (y ∷ ys) = false
same_bytes (x ∷ xs) [] = false
same_bytes (x ∷ xs) (y ∷ ys) = eqb x y && same_bytes xs ys

unfoldable pub all : {A : Type 0} → (A → Bool) → List A → Bool
all test [] = true
all test (x ∷ xs) = test x && all test xs

-- a Boolean has the bytes of the number 0 or 1
abbrev row : List ℤ → List ℕ
row zs = row_bytes (map Number zs)

-- what a buffer holds before a call writes it
abbrev pub rubbish : ℕ → List ℕ
rubbish n = replicate n 170

abbrev pub output_bytes : Result Counts Refused → ℕ
output_bytes (Err r) = 0
output_bytes (Ok counts) = 4 * counts.outputs

abbrev pub memory_size : Result Counts Refused → ℕ
memory_size (Err r) = 0
memory_size (Ok counts) = 5 * counts.cells

abbrev pub as_expected : Expected → InstantCall InRounds → (memory output : List ℕ) → Bool
as_expected (accepts rounds zs) call memory output = eqb (packed_rounds call.answer) rounds && same_bytes call.output (row zs)
as_expected (refuses number place) call memory output =
    eqb (packed_rounds call.answer) (number * 65536 + place)
    && (same_bytes call.output output && same_bytes call.memory memory)

-- the scheduled instant answers as the row says and, where it is accepted, leaves what the instant in rounds leaves
unfoldable pub agrees : (s memory input output : List ℕ) → InstantCall InRounds → Along → Bool
agrees s memory input output call (along list packed) =
    let other = scheduled_call s memory input output list in
    eqb (packed_scheduled other.answer) packed
    && cond (eqb packed 0) (same_bytes other.output call.output && same_bytes other.memory call.memory) true

unfoldable pub holds_from : (s memory : List ℕ) → List Along → List Step → Bool
holds_from s memory lists [] = true
holds_from s memory lists (step inputs expected ∷ steps) =
    let output = rubbish (output_bytes (check_of s)) in
    let call = rounds_call s memory (row inputs) output in
    as_expected expected call memory output
    && (all (agrees s memory (row inputs) output call) lists && holds_from s call.memory lists steps)

abbrev pub has_depth : ℕ → Outcome Sheet → Bool
has_depth depth (refusal why place) = false
has_depth depth (result sheet) = eqb depth 0 || eqb (greatest_depth sheet) depth

unfoldable pub holds : Case → Bool
holds c =
    let started = start_call c.sheet (rubbish (memory_size (check_of c.sheet))) in
    eqb (packed_started started.answer) 0
    && (holds_from c.sheet started.memory c.lists c.steps && has_depth c.depth (sheet_of c.sheet))

-- How the rows are written.
abbrev naturals : List ℕ → List ℤ
naturals = map pos

abbrev minus : ℕ → ℤ
minus n = neg_ℤ (pos n)

-- natural inputs and outputs, in two rounds: one that finds every wire, and one that changes nothing
abbrev on : List ℕ → List ℕ → Step
on inputs outputs = step (naturals inputs) (accepts 2 (naturals outputs))

-- one wire, wire 0, a number and the output
abbrev single : (input_types expression : List ℕ) → List ℕ
single input_types expression = length input_types ∷ (input_types ++ (1 ∷ 1 ∷ 1 ∷ 0 ∷ expression))

-- wire 0 is its own schedule where it does not read itself
abbrev alone : List ℕ → List Step → Case
alone sheet steps = record { sheet = sheet; steps = steps; lists = along (0 ∷ []) 0 ∷ []; depth = 1 }

-- ... and is refused 19 at 0 where it does
abbrev looping : List ℕ → List Step → Case
looping sheet steps = record { sheet = sheet; steps = steps; lists = along (0 ∷ []) (19 * 65536) ∷ []; depth = 0 }

-- a row that says nothing of lists
abbrev unscheduled : List ℕ → List Step → Case
unscheduled sheet steps = record { sheet = sheet; steps = steps; lists = []; depth = 0 }

-- two wires, of which wire 0 is a number and the output
abbrev pair : (input_types : List ℕ) → (secondType : ℕ) → (first second : List ℕ) → List ℕ
pair input_types secondType first second =
    length input_types ∷ (input_types ++ (2 ∷ 1 ∷ secondType ∷ 1 ∷ 0 ∷ (first ++ second)))

-- two wires, neither of which reads a wire within the instant
abbrev independent : List ℕ → List Step → Case
independent sheet steps = record { sheet = sheet; steps = steps; lists = along (0 ∷ 1 ∷ []) 0 ∷ along (1 ∷ 0 ∷ []) 0 ∷ []; depth = 1 }

-- one wire, a number that is kept
abbrev kept_number : (input_types expression : List ℕ) → List ℕ
kept_number input_types expression = length input_types ∷ (input_types ++ (1 ∷ 3 ∷ 1 ∷ 0 ∷ expression))

abbrev zero_number : List ℕ
zero_number = 1 ∷ 0 ∷ 0 ∷ 0 ∷ 0 ∷ []

abbrev one_number : List ℕ
one_number = 1 ∷ 1 ∷ 0 ∷ 0 ∷ 0 ∷ []

-- one wire, a machine with these leave-conditions and bodies, by which the wire counts up from 0 in state 0 and down in state 1
abbrev counting : (leave-0 leave-1 : List ℕ) → List ℕ
counting leave-0 leave-1 =
    19 ∷ (leave-0 ++ leave-1
    ++ (8 ∷ 16 ∷ 0 ∷ 0 ∷ 0 ∷ 0 ∷ 2 ∷ 0 ∷ one_number) ++ (9 ∷ 16 ∷ 0 ∷ 0 ∷ 0 ∷ 0 ∷ 2 ∷ 0 ∷ one_number))

-- two states that show themselves by 10 and by 20, left by the conditions
abbrev ten_or_twenty : (leave : List ℕ) → List ℕ
ten_or_twenty leave = 19 ∷ (leave ++ leave ++ (1 ∷ 10 ∷ 0 ∷ 0 ∷ 0 ∷ 1 ∷ 20 ∷ 0 ∷ 0 ∷ 0 ∷ []))

-- refused 20 at the place, without inputs
abbrev loops : ℕ → List Step
loops place = step [] (refuses 20 place) ∷ []

-- 2147483647 and -2147483648
abbrev greatest-number : List ℕ
greatest-number = 1 ∷ 255 ∷ 255 ∷ 255 ∷ 127 ∷ []

abbrev least-number : List ℕ
least-number = 1 ∷ 0 ∷ 0 ∷ 0 ∷ 128 ∷ []

-- no inputs, one output
abbrev gives : ℤ → Step
gives z = step [] (accepts 2 (z ∷ []))

-- natural inputs, one output
abbrev counts : List ℕ → ℤ → Step
counts inputs z = step (naturals inputs) (accepts 2 (z ∷ []))

-- 10 fby 20
abbrev ten_then_twenty : List ℕ
ten_then_twenty = 17 ∷ 1 ∷ 10 ∷ 0 ∷ 0 ∷ 0 ∷ 1 ∷ 20 ∷ 0 ∷ 0 ∷ 0 ∷ []

-- case E
abbrev pub chain_sheet : List ℕ
chain_sheet = 0 ∷ 3 ∷ 1 ∷ 1 ∷ 1 ∷ 3 ∷ 0 ∷ 1 ∷ 2 ∷ 2 ∷ 1 ∷ 2 ∷ 2 ∷ 1 ∷ 5 ∷ 0 ∷ 0 ∷ 0 ∷ []

-- case L, with the kind of its three choices: x1, x2, y1, y2 and y
abbrev pub crossed_sheet : ℕ → List ℕ
crossed_sheet choice =
    2 ∷ 0 ∷ 1 ∷ 5 ∷ 1 ∷ 1 ∷ 1 ∷ 1 ∷ 1 ∷ 1 ∷ 4
    ∷ choice ∷ 3 ∷ 0 ∷ 3 ∷ 1 ∷ 2 ∷ 3
    ∷ choice ∷ 3 ∷ 0 ∷ 2 ∷ 2 ∷ 3 ∷ 1
    ∷ 8 ∷ 2 ∷ 0 ∷ 1 ∷ 1 ∷ 0 ∷ 0 ∷ 0
    ∷ 5 ∷ 2 ∷ 1
    ∷ choice ∷ 3 ∷ 0 ∷ 2 ∷ 3 ∷ 2 ∷ 2 ∷ []

unfoldable pub table : List Case
table =
    -- A
    record {
      sheet = quarter_bytes;
      steps =
          on (1 ∷ 0 ∷ []) (1 ∷ 0 ∷ [])
          ∷ on (1 ∷ 0 ∷ []) (2 ∷ 1 ∷ [])
          ∷ on (1 ∷ 1 ∷ []) (1 ∷ 2 ∷ [])
          ∷ on (0 ∷ 0 ∷ []) (1 ∷ 1 ∷ [])
          ∷ on (0 ∷ 1 ∷ []) (0 ∷ 1 ∷ [])
          ∷ [];
      lists = along (0 ∷ 1 ∷ []) 0 ∷ along (1 ∷ 0 ∷ []) 0 ∷ [];
      depth = 1;
    }
    -- B
    ∷ looping (single [] (2 ∷ 0 ∷ [])) (step [] (refuses 20 0) ∷ [])
    -- C
    ∷ looping (single [] (12 ∷ 0 ∷ 0 ∷ 2 ∷ 0 ∷ zero_number)) (step [] (refuses 20 0) ∷ [])
    -- D
    ∷ looping (single [] (13 ∷ 0 ∷ 0 ∷ 2 ∷ 0 ∷ zero_number)) (on [] (0 ∷ []) ∷ [])
    -- E
    ∷ record {
      sheet = chain_sheet;
      steps = step [] (accepts 4 (naturals (5 ∷ 5 ∷ 5 ∷ []))) ∷ [];
      lists =
          along (2 ∷ 1 ∷ 0 ∷ []) 0
          ∷ along (0 ∷ 1 ∷ 2 ∷ []) (19 * 65536)
          ∷ along (0 ∷ 1 ∷ 1 ∷ []) (18 * 65536 + 2)
          ∷ along (2 ∷ 1 ∷ []) (17 * 65536)
          ∷ [];
      depth = 3;
    }
    -- F
    ∷ alone (single [] (17 ∷ 1 ∷ 5 ∷ 0 ∷ 0 ∷ 0 ∷ 8 ∷ 2 ∷ 0 ∷ one_number))
    (on [] (5 ∷ []) ∷ on [] (6 ∷ []) ∷ on [] (7 ∷ []) ∷ [])
    -- G
    ∷ alone (single (0 ∷ []) (13 ∷ 3 ∷ 0 ∷ (ten_then_twenty ++ zero_number)))
    (on (1 ∷ []) (10 ∷ []) ∷ on (0 ∷ []) (0 ∷ []) ∷ on (1 ∷ []) (20 ∷ []) ∷ [])
    -- G, with p false at first
    ∷ alone (single (0 ∷ []) (13 ∷ 3 ∷ 0 ∷ (ten_then_twenty ++ zero_number))) (on (0 ∷ []) (0 ∷ []) ∷ on (1 ∷ []) (10 ∷ []) ∷ [])
    -- H
    ∷ alone (single (0 ∷ 0 ∷ []) (14 ∷ 3 ∷ 1 ∷ 13 ∷ 3 ∷ 0 ∷ (ten_then_twenty ++ zero_number)))
    (on (1 ∷ 0 ∷ []) (10 ∷ []) ∷ on (0 ∷ 1 ∷ []) (0 ∷ []) ∷ on (1 ∷ 0 ∷ []) (10 ∷ []) ∷ [])
    -- I
    ∷ alone (single (0 ∷ 0 ∷ []) (13 ∷ 3 ∷ 0 ∷ 14 ∷ 3 ∷ 1 ∷ (ten_then_twenty ++ zero_number)))
    (on (1 ∷ 0 ∷ []) (10 ∷ []) ∷ on (0 ∷ 1 ∷ []) (0 ∷ []) ∷ on (1 ∷ 0 ∷ []) (20 ∷ []) ∷ [])
    -- J and K, whose numbers are those of document 02's K2
    ∷ alone (single [] (8 ∷ (greatest-number ++ one_number))) (gives (pos 2147483647) ∷ [])
    ∷ alone (single [] (5 ∷ least-number)) (gives (pos 2147483647) ∷ [])
    -- L; that the scheduled instant is refused on every list is `crossed-refused` of Laws/Cases
    ∷ record {
      sheet = crossed_sheet 13;
      steps =
          step (naturals (1 ∷ 5 ∷ [])) (accepts 6 (minus 6 ∷ []))
          ∷ step (naturals (0 ∷ 5 ∷ [])) (accepts 6 (minus 4 ∷ []))
          ∷ [];
      lists = [];
      depth = 0;
    }
    -- K2: subtract at the lower end, and from -1 the least number; the greatest number negated
    ∷ alone (single [] (9 ∷ (least-number ++ one_number))) (gives (minus 2147483648) ∷ [])
    ∷ alone (single [] (9 ∷ 1 ∷ 255 ∷ 255 ∷ 255 ∷ 255 ∷ least-number)) (gives (pos 2147483647) ∷ [])
    ∷ alone (single [] (5 ∷ greatest-number)) (gives (minus 2147483647) ∷ [])
    -- K2: each operation stops its own result: (2147483647 + 1) - 1
    ∷ alone (single [] (9 ∷ 8 ∷ (greatest-number ++ one_number ++ one_number))) (gives (pos 2147483646) ∷ [])
    -- K2: a register counting up, then one counting down, that comes to its end and stays there
    ∷ alone (single [] (17 ∷ 1 ∷ 254 ∷ 255 ∷ 255 ∷ 127 ∷ 8 ∷ 2 ∷ 0 ∷ one_number))
    (gives (pos 2147483646) ∷ gives (pos 2147483647) ∷ gives (pos 2147483647) ∷ [])
    ∷ alone (single [] (17 ∷ 1 ∷ 1 ∷ 0 ∷ 0 ∷ 128 ∷ 9 ∷ 2 ∷ 0 ∷ one_number))
    (gives (minus 2147483647) ∷ gives (minus 2147483648) ∷ gives (minus 2147483648) ∷ [])
    -- K5: wire 0 = wire 1 + 1, and wire 1 = wire 1
    ∷ unscheduled (pair [] 1 (8 ∷ 2 ∷ 1 ∷ one_number) (2 ∷ 1 ∷ [])) (loops 1)
    -- K5: two loops, of which wire 0 meets the higher one first
    ∷ unscheduled (0 ∷ 3 ∷ 1 ∷ 1 ∷ 1 ∷ 1 ∷ 0 ∷ 8 ∷ 2 ∷ 2 ∷ 2 ∷ 1 ∷ 2 ∷ 1 ∷ 2 ∷ 2 ∷ []) (loops 1)
    -- K5: no short cut: wire 0 = wire 1 + wire 0
    ∷ unscheduled (pair [] 1 (8 ∷ 2 ∷ 1 ∷ 2 ∷ 0 ∷ []) (2 ∷ 1 ∷ [])) (loops 0)
    -- K5: wire 1 loops through a present's condition
    ∷ unscheduled (pair [] 1 (8 ∷ 2 ∷ 1 ∷ one_number) (13 ∷ 10 ∷ 2 ∷ 1 ∷ (zero_number ++ zero_number ++ one_number))) (loops 1)
    -- K5: an unknown condition: of a present it alone counts, of an if the arms count too, of a reset it alone
    ∷ unscheduled (pair [] 0 (13 ∷ 2 ∷ 1 ∷ 2 ∷ 0 ∷ zero_number) (2 ∷ 1 ∷ [])) (loops 1)
    ∷ unscheduled (pair [] 0 (12 ∷ 2 ∷ 1 ∷ 2 ∷ 0 ∷ zero_number) (2 ∷ 1 ∷ [])) (loops 0)
    ∷ unscheduled (pair [] 0 (14 ∷ 2 ∷ 1 ∷ 2 ∷ 0 ∷ []) (2 ∷ 1 ∷ [])) (loops 1)
    -- K5: a known one: an arm that is not chosen names a loop; a reset's operand counts
    ∷ unscheduled (pair [] 1 (13 ∷ 0 ∷ 0 ∷ 2 ∷ 0 ∷ 2 ∷ 1 ∷ []) (2 ∷ 1 ∷ [])) (loops 1)
    ∷ unscheduled (pair [] 1 (14 ∷ 0 ∷ 0 ∷ 2 ∷ 0 ∷ []) (2 ∷ 1 ∷ [])) (loops 0)
    -- K5: an fby that is not started waits for its left side, a started one does not, and one that a reset makes fresh does again
    ∷ unscheduled (pair (0 ∷ 0 ∷ []) 1
    (8 ∷ 14 ∷ 3 ∷ 1 ∷ 17 ∷ 13 ∷ 3 ∷ 0 ∷ (one_number ++ (2 ∷ 0 ∷ (zero_number ++ (2 ∷ 1 ∷ [])))))
    (13 ∷ 3 ∷ 0 ∷ (one_number ++ (2 ∷ 1 ∷ []))))
    (step (naturals (0 ∷ 0 ∷ [])) (refuses 20 0)
    ∷ step (naturals (1 ∷ 0 ∷ [])) (accepts 3 (naturals (2 ∷ [])))
    ∷ step (naturals (0 ∷ 0 ∷ [])) (refuses 20 1)
    ∷ step (naturals (0 ∷ 1 ∷ [])) (refuses 20 0)
    ∷ [])
    -- K6: wire 0 is wire 1 where the input is true, and else 0: an arm that is not chosen leaves fewer rounds than the depth plus one
    ∷ record {
      sheet = pair (0 ∷ []) 1 (13 ∷ 3 ∷ 0 ∷ 2 ∷ 1 ∷ zero_number) one_number;
      steps = step (naturals (1 ∷ [])) (accepts 3 (naturals (1 ∷ []))) ∷ on (0 ∷ []) (0 ∷ []) ∷ [];
      lists = along (1 ∷ 0 ∷ []) 0 ∷ [];
      depth = 2;
    }
    -- K6: wire 0 is wire 1 + wire 2, and wire 1 is wire 2: the deepest that is read counts
    ∷ record {
      sheet = 0 ∷ 3 ∷ 1 ∷ 1 ∷ 1 ∷ 1 ∷ 0 ∷ 8 ∷ 2 ∷ 1 ∷ 2 ∷ 2 ∷ 2 ∷ 2 ∷ one_number;
      steps = step [] (accepts 4 (naturals (2 ∷ []))) ∷ [];
      lists = along (2 ∷ 1 ∷ 0 ∷ []) 0 ∷ [];
      depth = 3;
    }
    -- K7: a tamper flag, kept through a firing reset that clears the count beside it; kind 18 stands under the reset
    ∷ independent
    (2 ∷ 0 ∷ 0 ∷ 2 ∷ 2 ∷ 1 ∷ 2 ∷ 0 ∷ 1
    ∷ 14 ∷ 3 ∷ 1 ∷ 7 ∷ 18 ∷ 0 ∷ 3 ∷ 0
    ∷ 14 ∷ 3 ∷ 1 ∷ 8 ∷ 16 ∷ 0 ∷ 0 ∷ 0 ∷ 0 ∷ 2 ∷ 1 ∷ one_number)
    (on (0 ∷ 0 ∷ []) (0 ∷ 1 ∷ []) ∷ on (1 ∷ 0 ∷ []) (1 ∷ 2 ∷ [])
    ∷ on (0 ∷ 1 ∷ []) (1 ∷ 1 ∷ []) ∷ on (0 ∷ 0 ∷ []) (1 ∷ 2 ∷ []) ∷ [])
    -- K7: a kept number, which an earlier wire gives one instant late; it reads no wire within the instant
    ∷ independent (0 ∷ 2 ∷ 1 ∷ 3 ∷ 2 ∷ 0 ∷ 1 ∷ 18 ∷ 1 ∷ 8 ∷ 18 ∷ 1 ∷ one_number)
    (on [] (0 ∷ 1 ∷ []) ∷ on [] (1 ∷ 2 ∷ []) ∷ on [] (2 ∷ 3 ∷ []) ∷ [])
    -- K7: kind 18 under a pre, which stores what the kept cell held before the instant
    ∷ independent (0 ∷ 2 ∷ 1 ∷ 3 ∷ 2 ∷ 0 ∷ 1 ∷ 16 ∷ 7 ∷ 0 ∷ 0 ∷ 0 ∷ 18 ∷ 1 ∷ 8 ∷ 18 ∷ 1 ∷ one_number)
    (on [] (7 ∷ 1 ∷ []) ∷ on [] (0 ∷ 2 ∷ []) ∷ on [] (1 ∷ 3 ∷ []) ∷ [])
    -- K7: kind 18 in an arm that is not always chosen; the wire's value is stored whichever is
    ∷ alone (kept_number (0 ∷ []) (13 ∷ 3 ∷ 0 ∷ 8 ∷ 18 ∷ 0 ∷ (one_number ++ (1 ∷ 5 ∷ 0 ∷ 0 ∷ 0 ∷ []))))
    (on (1 ∷ []) (1 ∷ []) ∷ on (0 ∷ []) (5 ∷ []) ∷ on (1 ∷ []) (6 ∷ []) ∷ on (1 ∷ []) (7 ∷ []) ∷ [])
    -- K7: kind 18 under a reset, which fires and changes nothing
    ∷ alone (kept_number (0 ∷ []) (14 ∷ 3 ∷ 0 ∷ 8 ∷ 18 ∷ 0 ∷ one_number))
    (on (0 ∷ []) (1 ∷ []) ∷ on (1 ∷ []) (2 ∷ []) ∷ on (1 ∷ []) (3 ∷ []) ∷ [])
    -- K7 and K5: kind 18 waits for nothing, though the wire that it names waits for itself
    ∷ unscheduled (pair [] 3 (18 ∷ 1 ∷ []) (2 ∷ 1 ∷ [])) (loops 1)
    -- K8: a debounced relay, open in state 0 and closed in state 1, that two equal contacts in a row switch; in the seventh instant the first
    -- condition still has the contact of the fourth, since it rested
    ∷ alone (single (0 ∷ [])
    (19 ∷ 6 ∷ 3 ∷ 0 ∷ 15 ∷ 0 ∷ 3 ∷ 0 ∷ 6 ∷ 4 ∷ 3 ∷ 0 ∷ 4 ∷ 15 ∷ 1 ∷ 3 ∷ 0 ∷ (zero_number ++ one_number)))
    (on (1 ∷ []) (0 ∷ []) ∷ on (0 ∷ []) (0 ∷ []) ∷ on (1 ∷ []) (0 ∷ []) ∷ on (1 ∷ []) (1 ∷ [])
    ∷ on (0 ∷ []) (1 ∷ []) ∷ on (0 ∷ []) (0 ∷ []) ∷ on (1 ∷ []) (1 ∷ []) ∷ [])
    -- K8: each body counts from its start at every entry, and goes on where its state stays; the last two enter and leave
    ∷ alone (single (0 ∷ []) (counting (3 ∷ 0 ∷ []) (3 ∷ 0 ∷ [])))
    (counts (0 ∷ []) (pos 1) ∷ counts (0 ∷ []) (pos 2) ∷ counts (1 ∷ []) (minus 1) ∷ counts (0 ∷ []) (minus 2)
    ∷ counts (1 ∷ []) (pos 1) ∷ counts (0 ∷ []) (pos 2) ∷ counts (1 ∷ []) (minus 1) ∷ counts (1 ∷ []) (pos 1) ∷ [])
    -- K8: under a reset that fires in state 1, and in an instant that leaves state 0
    ∷ alone (single (0 ∷ 0 ∷ []) (14 ∷ 3 ∷ 1 ∷ counting (3 ∷ 0 ∷ []) (0 ∷ 0 ∷ [])))
    (counts (0 ∷ 0 ∷ []) (pos 1) ∷ counts (1 ∷ 0 ∷ []) (minus 1) ∷ counts (0 ∷ 0 ∷ []) (minus 2) ∷ counts (0 ∷ 1 ∷ []) (pos 1)
    ∷ counts (0 ∷ 0 ∷ []) (pos 2) ∷ counts (1 ∷ 1 ∷ []) (minus 1) ∷ counts (0 ∷ 0 ∷ []) (minus 2) ∷ [])
    -- K8: a machine in the first body of a machine; it is fresh where that is entered
    ∷ alone (single (0 ∷ 0 ∷ []) (19 ∷ 3 ∷ 0 ∷ 3 ∷ 0 ∷ (ten_or_twenty (3 ∷ 1 ∷ []) ++ (1 ∷ 30 ∷ 0 ∷ 0 ∷ 0 ∷ []))))
    (on (0 ∷ 0 ∷ []) (10 ∷ []) ∷ on (0 ∷ 1 ∷ []) (20 ∷ []) ∷ on (0 ∷ 0 ∷ []) (20 ∷ []) ∷ on (1 ∷ 0 ∷ []) (30 ∷ [])
    ∷ on (1 ∷ 0 ∷ []) (10 ∷ []) ∷ on (1 ∷ 1 ∷ []) (30 ∷ []) ∷ on (1 ∷ 1 ∷ []) (20 ∷ []) ∷ [])
    -- K8: a machine in an arm that is not always chosen
    ∷ alone (single (0 ∷ 0 ∷ []) (13 ∷ 3 ∷ 0 ∷ (ten_or_twenty (3 ∷ 1 ∷ []) ++ zero_number)))
    (on (1 ∷ 1 ∷ []) (20 ∷ []) ∷ on (0 ∷ 1 ∷ []) (0 ∷ []) ∷ on (1 ∷ 0 ∷ []) (20 ∷ []) ∷ on (0 ∷ 1 ∷ []) (0 ∷ [])
    ∷ on (1 ∷ 1 ∷ []) (10 ∷ []) ∷ [])
    -- K8: two machines in step, each of which names the other's wire in one state: accepted in rounds, and no list passes
    ∷ record {
      sheet = pair (0 ∷ []) 1
          (19 ∷ 3 ∷ 0 ∷ 3 ∷ 0 ∷ 1 ∷ 5 ∷ 0 ∷ 0 ∷ 0 ∷ 2 ∷ 1 ∷ [])
          (19 ∷ 3 ∷ 0 ∷ 3 ∷ 0 ∷ 2 ∷ 0 ∷ 1 ∷ 7 ∷ 0 ∷ 0 ∷ 0 ∷ []);
      steps =
          step (naturals (0 ∷ [])) (accepts 3 (naturals (5 ∷ [])))
          ∷ step (naturals (1 ∷ [])) (accepts 3 (naturals (7 ∷ [])))
          ∷ step (naturals (0 ∷ [])) (accepts 3 (naturals (7 ∷ [])))
          ∷ step (naturals (1 ∷ [])) (accepts 3 (naturals (5 ∷ [])))
          ∷ [];
      lists = along (0 ∷ 1 ∷ []) (19 * 65536) ∷ along (1 ∷ 0 ∷ []) (19 * 65536) ∷ [];
      depth = 0;
    }
    -- K8 and K5: a condition that is not asked and a body that rests are not waited for; an unknown condition is, and nothing else; once it is
    -- known, the body that runs
    ∷ looping (single [] (19 ∷ 0 ∷ 0 ∷ 10 ∷ 2 ∷ 0 ∷ (zero_number ++ one_number ++ (2 ∷ 0 ∷ [])))) (on [] (1 ∷ []) ∷ [])
    ∷ unscheduled (pair [] 0 (19 ∷ 2 ∷ 1 ∷ 0 ∷ 0 ∷ 2 ∷ 0 ∷ 2 ∷ 0 ∷ []) (2 ∷ 1 ∷ [])) (loops 1)
    ∷ unscheduled (pair [] 1 (19 ∷ 0 ∷ 0 ∷ 0 ∷ 0 ∷ 2 ∷ 1 ∷ 2 ∷ 0 ∷ []) (2 ∷ 1 ∷ [])) (loops 1)
    ∷ unscheduled (pair [] 1 (19 ∷ 0 ∷ 1 ∷ 0 ∷ 0 ∷ 2 ∷ 1 ∷ 2 ∷ 0 ∷ []) (2 ∷ 1 ∷ [])) (loops 0)
    ∷ []

-- the table holds: computed from the definitions, so that a wrong one is refused here
pub table-holds : all holds table ≡ true
unfolding settled equals cell_forms cell_count meaning_of operands_of lowest
    read_each names_of body_from own_of read_expression field_of bytes_of section_of forms_of kept_count read_wires outputs_from wires_from read_sheet
    sheet_of memory_bytes invalid_at cells_from memory_of start_memory start_outcome start_call row_bytes wrong_at data_from inputs_of
    same_datum same_value same_values among all_among wires_read value resting stored
    System.after System.unchanged System.rounds System.finished
    reads_at value_of_wire values stored_cells lasts_from round rounds finished next_memory output_row
    through lowest_loop wires_awaited waits_for lowest_waiting
    not_new too_early schedule_of pass_from pass given_of any_unknown place_of_loop accepted_of in_rounds scheduled rounds_call scheduled_call
    deepest depth_within depth_of wires_below greatest_depth same_bytes all agrees holds_from holds table
table-holds = refl

-- K7 and K8: the cells that the instants with these input rows leave, from the start on.
pub record Left : Type 0 where
  pub sheet : List ℕ
  pub rows : List (List ℤ)
  pub cells : List Cell

unfoldable pub memory_after : (s memory : List ℕ) → List (List ℤ) → List ℕ
memory_after s memory [] = memory
memory_after s memory (zs ∷ rows) = memory_after s (rounds_call s memory (row zs) (rubbish (output_bytes (check_of s)))).memory rows

unfoldable pub leaves : Left → Bool
leaves l =
    let started = start_call l.sheet (rubbish (memory_size (check_of l.sheet))) in
    same_bytes (memory_after l.sheet started.memory l.rows) (memory_bytes l.cells)

-- a kept Boolean, wire 1, whose cell lies between those of wire 0 and wire 2, and before that of its own pre
abbrev between : List (List ℤ) → List Cell → Left
between rows cells = record {
  sheet = 1 ∷ 0 ∷ 3 ∷ 1 ∷ 2 ∷ 1 ∷ 1 ∷ 2
      ∷ 16 ∷ 9 ∷ 0 ∷ 0 ∷ 0 ∷ 1 ∷ 1 ∷ 0 ∷ 0 ∷ 0
      ∷ 15 ∷ 1 ∷ 3 ∷ 0
      ∷ 17 ∷ 2 ∷ 0 ∷ 1 ∷ 4 ∷ 0 ∷ 0 ∷ 0 ∷ [];
  rows = rows;
  cells = cells;
}

-- a machine under a reset, with memory in each of its operands: its state, what each condition has of the input of the instant before, true at
-- first, and two counts
abbrev remembering : List (List ℤ) → (state leave-0 leave-1 : Bool) → (up down : ℤ) → Left
remembering rows state leave-0 leave-1 up down = record {
  sheet = single (0 ∷ 0 ∷ []) (14 ∷ 3 ∷ 1 ∷ counting (15 ∷ 1 ∷ 3 ∷ 0 ∷ []) (15 ∷ 1 ∷ 3 ∷ 0 ∷ []));
  rows = rows;
  cells = Started (Boolean state) ∷ Started (Boolean leave-0) ∷ Started (Boolean leave-1) ∷ Started (Number up) ∷ Started (Number down) ∷ [];
}

-- the first instants leave state 0 at once, and then state 1 at once
abbrev left-twice : List (List ℤ)
left-twice = naturals (0 ∷ 0 ∷ []) ∷ naturals (0 ∷ 0 ∷ []) ∷ []

unfoldable pub cell_table : List Left
cell_table =
    between []
    (Started (Number (pos 9)) ∷ Started (Boolean false) ∷ Started (Boolean true) ∷ NotStarted ∷ [])
    ∷ between (naturals (0 ∷ []) ∷ [])
    (Started (Number (pos 1)) ∷ Started (Boolean true) ∷ Started (Boolean false) ∷ Started (Number (pos 4)) ∷ [])
    ∷ between (naturals (0 ∷ []) ∷ naturals (1 ∷ []) ∷ [])
    (Started (Number (pos 1)) ∷ Started (Boolean false) ∷ Started (Boolean true) ∷ Started (Number (pos 4)) ∷ [])
    -- K8: the start; state 1 is entered in the first instant, and the operands that do not run keep their memory; then state 0 is
    ∷ remembering [] false true true (pos 0) (pos 0)
    ∷ remembering (naturals (0 ∷ 0 ∷ []) ∷ []) true false true (pos 0) (minus 1)
    ∷ remembering left-twice false false false (pos 1) (minus 1)
    -- K8: state 0 stays, and its body goes on
    ∷ remembering (left-twice ++ (naturals (1 ∷ 0 ∷ []) ∷ [])) false true false (pos 2) (minus 1)
    -- K8: the reset fires: state 0 is left from the start, and what does not run gets its starting memory, state 0's body too
    ∷ remembering (left-twice ++ (naturals (0 ∷ 1 ∷ []) ∷ [])) true false true (pos 0) (minus 1)
    ∷ []

-- and so are these the cells
pub cells_left : all leaves cell_table ≡ true
unfolding settled cell_forms cell_count meaning_of operands_of lowest
    read_each names_of body_from own_of read_expression field_of bytes_of section_of forms_of kept_count read_wires outputs_from wires_from read_sheet
    sheet_of memory_bytes invalid_at cells_from memory_of start_memory start_outcome start_call row_bytes wrong_at data_from inputs_of
    same_datum same_value same_values wires_read value resting stored
    System.after System.unchanged System.rounds System.finished
    values stored_cells lasts_from round rounds finished next_memory output_row given_of any_unknown accepted_of in_rounds rounds_call
    same_bytes all memory_after leaves cell_table
cells_left = refl
