-- A list that notes the owner of each cell, and the start of a memory by it.
use Rattle.std.specs.Prelude.{ℕ, ◌*◌, ◌≤◌, ◌≡◌, cond, List, eqb, length, take}
use Rattle.sheet.specs.Expressions.{CellForm}
use Rattle.sheet.specs.Memory.{memory_bytes, start_memory}
use Rattle.sheet.specs.Typing.{Pairwise}
use Rattle.sheet_expressions.specs.Map.{CellNoted}
use Rattle.sheet.specs.declared.Refusal.TheVariants.{MemoryLength}
use Rattle.sheet.specs.Outcomes.{refused_at}
use Rattle.sheet.specs.declared.Refused.{Refused}
use Rattle.std.specs.Prelude.{Ok}
use Rattle.std.specs.Prelude.{Result}

-- the first so many entries note one cell each
pub record Noted (s entries : List ℕ) (count : ℕ) : Type 0 where
  pub forms : List CellForm
  pub few : count ≤ 64
  pub counted : count ≡ length forms
  pub noted : Pairwise (CellNoted s) forms (take count entries)

-- the start of a memory of cells of these forms, where no other refusal comes before 12
pub record Starts (forms : List CellForm) (memory : List ℕ) (answer : Result (Unit {0}) Refused) (after : List ℕ) : Type 0 where
  pub answers : answer ≡ cond (eqb (length memory) (5 * length forms)) (Ok tt) (refused_at MemoryLength 0)
  pub holds : after ≡ cond (eqb (length memory) (5 * length forms)) (memory_bytes (start_memory forms)) memory
