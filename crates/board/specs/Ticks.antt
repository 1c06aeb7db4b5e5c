-- A tick of a board, as one function: from all buffers, marks and the number of the sheet served last to the answer and what is left of them.
use Rattle.std.specs.Prelude.{ℕ, ◌<◌, Bool, not, ◌&&◌, ◌||◌, cond, List, Result, Ok, Err, eqb, ltb, length}
use Rattle.sheet.specs.Outcomes.{Outcome, refusal, result, refused_at, packed_refusal}
use Rattle.sheet.specs.Sheets.{Sheet, sheet_forms}
use Rattle.sheet.specs.declared.Refused.{Refused}
use Rattle.sheet.specs.declared.Refusal.TheVariants.{StaysUnknown}
use Rattle.kernel.specs.Calls.{InstantCall}
use Rattle.kernel.specs.Answers.{InRounds}
use Rattle.board.specs.Boards.{bytes_of}
use Rattle.board.specs.Parts.{memory_part, input_part, output_part, with_part, passed_of, outputs_in}
use Rattle.board.specs.Marks.{marked, marks_of, first_due}
use Rattle.board.specs.Serving.{Restart, served_call}
use Rattle.board.specs.declared.Standing.{Standing}
use Rattle.board.specs.declared.Ticked.{Ticked}
use Rattle.board.specs.declared.Ticked.TheVariants.{NoneDue, Served, LeftUnknown}

-- what the caller lends and marks at one tick
pub record Turn : Type 0 where
  pub memory : List ℕ
  pub input : List ℕ
  pub output : List ℕ
  pub due : ℕ
  pub restart : ℕ

-- what the call of a tick leaves
pub record TickCall : Type 0 where
  pub answer : Result Ticked Refused
  pub memory : List ℕ
  pub output : List ℕ
  pub standing : Standing

-- the sheets of the board, where the turn passes all checks
abbrev pub found_by : (board : List ℕ) → Turn → Outcome (List Sheet)
found_by board turn = passed_of board turn.memory turn.input turn.output

-- this tick's due marks are stored with those that wait
abbrev pub is_due : Turn → Standing → ℕ → Bool
is_due turn standing k = marked turn.due k || marked standing.stored k

-- of n sheets, the first due one after the one served last, in ring order; n where none is due
abbrev pub due_sheet : (n : ℕ) → Turn → Standing → ℕ
due_sheet n turn standing = first_due n (is_due turn standing) standing.number

-- success names the served sheet and its rounds, 20 the sheet and its wire
abbrev pub served_answer : ℕ → InRounds → Ticked
served_answer k (Err refused) = LeftUnknown k refused.place
served_answer k (Ok rounds) = Served k rounds

-- the answer as one number: the rounds, 0 where none is due, or a refusal
abbrev pub packed_tick : Result Ticked Refused → ℕ
packed_tick (Err refused) = packed_refusal refused.why refused.place
packed_tick (Ok NoneDue) = 0
packed_tick (Ok (Served sheet rounds)) = rounds
packed_tick (Ok (LeftUnknown sheet wire)) = packed_refusal StaysUnknown wire

-- a sheet's number is one byte, and place, rounds and wire have room in such a number
abbrev pub PackableTick : Result Ticked Refused → Type 0
PackableTick (Err refused) = refused.place < 65536
PackableTick (Ok NoneDue) = Unit {0}
PackableTick (Ok (Served sheet rounds)) = (sheet < 256) × (rounds < 65536)
PackableTick (Ok (LeftUnknown sheet wire)) = (sheet < 256) × (wire < 65536)

module _ (rule : Restart) (board : List ℕ) (turn : Turn) (sheets : List Sheet) where
  -- the instant of sheet k, on its own parts
  abbrev pub instant_of : ℕ → InstantCall InRounds
  instant_of k =
      served_call rule (marked turn.restart k) (bytes_of board k)
      (memory_part sheets k turn.memory) (input_part sheets k turn.input) (output_part sheets k turn.output)

  module _ (standing : Standing) where
    -- sheet k is served, and its mark is cleared
    unfoldable pub serve : ℕ → TickCall
    serve k =
        let instant = instant_of k in
        record {
          answer = Ok (served_answer k instant.answer);
          memory = with_part 5 sheet_forms sheets k instant.memory turn.memory;
          output = with_part 4 outputs_in sheets k instant.output turn.output;
          standing = record {
            stored = marks_of (λ j. is_due turn standing j && not (eqb j k)) (length sheets);
            number = k;
          };
        }

    -- nothing is written, and the number is kept
    abbrev pub none_due : TickCall
    none_due =
        record {
          answer = Ok NoneDue;
          memory = turn.memory;
          output = turn.output;
          standing = record { stored = marks_of (is_due turn standing) (length sheets); number = standing.number };
        }

    abbrev pub serve_first : TickCall
    serve_first =
        let k = due_sheet (length sheets) turn standing in
        cond (ltb k (length sheets)) (serve k) none_due

-- the tick of a board that passes all checks, or the refusal, which changes nothing
abbrev pub tick_of : Restart → (board : List ℕ) → Turn → Standing → Outcome (List Sheet) → TickCall
tick_of rule board turn standing (refusal why place) =
    record { answer = refused_at why place; memory = turn.memory; output = turn.output; standing = standing }
tick_of rule board turn standing (result sheets) = serve_first rule board turn sheets standing

unfoldable pub tick_call : Restart → (board : List ℕ) → Turn → Standing → TickCall
tick_call rule board turn standing = tick_of rule board turn standing (found_by board turn)
