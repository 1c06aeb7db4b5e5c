-- What an instant in rounds comes to before anything is stored.
use Rattle.std.specs.Prelude.{ℕ, ◌≡◌, List, Result, Ok, Err}
use Rattle.sheet.specs.declared.Refused.{Refused}
use Rattle.kernel.specs.Answers.{InRounds}
use Rattle.kernel.specs.Calls.{InstantCall, Shows}
use Rattle.rounds.specs.Settled.{Settled, stored_of}
use Rattle.in_rounds.specs.declared.Shown.{Shown}

-- the answer of the instant
abbrev pub rounds_of : Result Shown Refused → InRounds
rounds_of (Err r) = Err r
rounds_of (Ok shown) = Ok shown.rounds

-- the finished values are there, and set the next memory
pub record Ready (s memory places firsts words types next : List ℕ) : Type 0 where
  pub settled : Settled s memory types places firsts words
  pub stores : stored_of settled ≡ next

-- the answer and the output row are those of the call; after a refusal its memory is the old one, else it is ready to be stored
pub record Prepares (call : InstantCall InRounds) (s memory places firsts words : List ℕ) (answer : Result Shown Refused)
    (output : List ℕ) : Type 0 where
  pub shows : Shows call (rounds_of answer) output
  pub refused : {r : Refused} → answer ≡ Err r → memory ≡ call.memory
  pub accepted : {shown : Shown} → answer ≡ Ok shown → Ready s memory places firsts words shown.types.now call.memory
