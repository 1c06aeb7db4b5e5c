-- Ticks of one board, each given the marks and number that the tick before handed back: their answers, and the sheets served.
use Rattle.std.specs.Prelude.{ℕ, ◌+◌, Bool, true, false, ◌||◌, cond, List, [], ◌∷◌, Result, Ok, Err, eqb}
use Rattle.sheet.specs.declared.Refused.{Refused}
use Rattle.board.specs.Serving.{Restart}
use Rattle.board.specs.Ticks.{Turn, tick_call}
use Rattle.board.specs.declared.Standing.{Standing}
use Rattle.board.specs.declared.Ticked.{Ticked}
use Rattle.board.specs.declared.Ticked.TheVariants.{NoneDue, Served, LeftUnknown}

unfoldable pub answers : Restart → (board : List ℕ) → Standing → List Turn → List (Result Ticked Refused)
answers rule board standing [] = []
answers rule board standing (turn ∷ turns) =
    let now = tick_call rule board turn standing in now.answer ∷ answers rule board now.standing turns

abbrev pub is_refused : Result Ticked Refused → Bool
is_refused (Err refused) = true
is_refused (Ok ticked) = false

-- how many ticks there are; those refused before marks are stored count nothing
unfoldable pub counted : List (Result Ticked Refused) → ℕ
counted [] = 0
counted (answer ∷ rest) = cond (is_refused answer) 0 1 + counted rest

-- a sheet refused with 20 counts as served
abbrev pub serves : ℕ → Result Ticked Refused → Bool
serves k (Err refused) = false
serves k (Ok NoneDue) = false
serves k (Ok (Served sheet rounds)) = eqb sheet k
serves k (Ok (LeftUnknown sheet wire)) = eqb sheet k

unfoldable pub served_in : ℕ → List (Result Ticked Refused) → Bool
served_in k [] = false
served_in k (answer ∷ rest) = serves k answer || served_in k rest
