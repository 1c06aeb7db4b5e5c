-- What a sheet of a board is served: an instant in rounds on its own parts, from its starting memory where it is restarted.
use Rattle.std.specs.Prelude.{Ok, Err, ℕ, Bool, cond, List}
use Rattle.sheet.specs.Memory.{start_call}
use Rattle.kernel.specs.Calls.{InstantCall, rounds_call}
use Rattle.kernel.specs.Answers.{InRounds}

-- a rule of restart: from a sheet's bytes and its part of the memory, the memory that it runs from
abbrev pub Restart : Type 0
Restart = (s own : List ℕ) → List ℕ

-- its starting memory, every cell of it
abbrev pub every_cell : Restart
every_cell s own = (start_call s own).memory

abbrev pub runs_from : Restart → (restarts : Bool) → (s own : List ℕ) → List ℕ
runs_from rule restarts s own = cond restarts (rule s own) own

-- what the sheet's part of the memory holds then: refused, what it held before, also where it was restarted
abbrev pub stored_in : InRounds → (next own : List ℕ) → List ℕ
stored_in (Err refused) next own = own
stored_in (Ok rounds) next own = next

-- the instant in rounds of a sheet, on its own parts
unfoldable pub served_call : Restart → (restarts : Bool) → (s own input output : List ℕ) → InstantCall InRounds
served_call rule restarts s own input output =
    let instant = rounds_call s (runs_from rule restarts s own) input output in
    record {
      answer = instant.answer;
      memory = stored_in instant.answer instant.memory own;
      output = instant.output;
    }
