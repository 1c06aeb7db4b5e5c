-- A tick with its marks and numbers in 8 bytes of state: due marks, restart marks, stored marks and the number of the sheet served last; behind them
-- the sheet that a tick serves.
use Rattle.std.specs.Prelude.{ℕ, ◌≡◌, ◌&&◌, cond, List, Result, Ok, Err, eqb, ltb, length, get_or, set}
use Rattle.sheet.specs.declared.Refused.{Refused}
use Rattle.board.specs.Serving.{every_cell}
use Rattle.board.specs.Ticks.{TickCall, tick_call, packed_tick}
use Rattle.board.specs.declared.Standing.{Standing}
use Rattle.board.specs.declared.Ticked.{Ticked}
use Rattle.board.specs.declared.Ticked.TheVariants.{NoneDue, Served, LeftUnknown}
use Rattle.tick.specs.Ticking.{turn_of}

-- what the call leaves
pub record ProbeCall : Type 0 where
  pub answer : ℕ
  pub memory : List ℕ
  pub output : List ℕ
  pub state : List ℕ

abbrev pub served_in : Result Ticked Refused → List ℕ → List ℕ
served_in (Err refused) state = state
served_in (Ok NoneDue) state = state
served_in (Ok (Served sheet rounds)) state = set state 4 sheet
served_in (Ok (LeftUnknown sheet wire)) state = set state 4 sheet

-- the state after a tick that answered and handed back these
abbrev pub state_after : (state : List ℕ) → Result Ticked Refused → Standing → List ℕ
state_after state answer standing = served_in answer (set (set state 2 standing.stored) 3 standing.number)

-- the tick that the state asks for
abbrev pub tick_in : (board memory input output state : List ℕ) → TickCall
tick_in board memory input output state =
    tick_call every_cell board (turn_of memory input output (get_or state 0 0) (get_or state 1 0))
    (record { stored = get_or state 2 0; number = get_or state 3 0 })

-- a state of another length, or a board whose places could have no room in a packed number, does nothing
unfoldable pub probe_tick : (board memory input output state : List ℕ) → ProbeCall
probe_tick board memory input output state =
    let now = tick_in board memory input output state in
    cond (eqb (length state) 8 && ltb (length board) 65536)
    (record {
      answer = packed_tick now.answer;
      memory = now.memory;
      output = now.output;
      state = state_after state now.answer now.standing;
    })
    (record { answer = 0; memory = memory; output = output; state = state })

-- answer and buffers are those of the call
pub record Probes (call : ProbeCall) (answer : ℕ) (memory output state : List ℕ) : Type 0 where
  pub answers : answer ≡ call.answer
  pub stores : memory ≡ call.memory
  pub writes : output ≡ call.output
  pub notes : state ≡ call.state
