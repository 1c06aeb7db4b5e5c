-- What the tests of the buffers come to.
use Rattle.std.specs.Prelude.{ℕ, ◌*◌, ◌<◌, ◌≡◌, cond, List, Result, Ok, Err, eqb, length, get_or}
use Rattle.sheet.specs.Data.{ValueType, boolean}
use Rattle.sheet.specs.Expressions.{CellForm, fby_cell}
use Rattle.sheet.specs.Outcomes.{refused_at, done_of}
use Rattle.sheet.specs.Memory.{form_byte, memory_of}
use Rattle.sheet.specs.Rows.{inputs_of}
use Rattle.sheet.specs.declared.Refused.{Refused}
use Rattle.sheet.specs.declared.Refusal.TheVariants.{OutputLength}
use Rattle.sheet_expressions.specs.Map.{form_in}

-- what some tests answer
abbrev pub Tested : Type 0
Tested = Result (Unit {0}) Refused

-- a test that refuses ends the tests
abbrev pub and_tested : Tested → Tested → Tested
and_tested (Err r) next = Err r
and_tested (Ok passed) next = next

-- 12 to 16, of a sheet with cells of these forms, inputs of these types and so many outputs
abbrev pub buffers_tested : List CellForm → List ValueType → (outputs : ℕ) → (memory input output : List ℕ) → Tested
buffers_tested forms types outputs memory input output =
    and_tested (done_of (memory_of forms memory))
    (and_tested (done_of (inputs_of types input))
    (cond (eqb (length output) (4 * outputs)) (Ok tt) (refused_at OutputLength 0)))

-- an entry of the map holds the form of a cell
pub record Holds (of : CellForm) (entry : ℕ) : Type 0 where
  pub form : form_in entry ≡ form_byte of

-- the entries of the map hold the forms of so many cells
pub record Formed (fs : List CellForm) (entries : List ℕ) (count : ℕ) : Type 0 where
  pub counted : length fs ≡ count
  pub each : (k : ℕ) → k < count → form_byte (get_or fs k (fby_cell boolean)) ≡ form_in (get_or entries k 0)
