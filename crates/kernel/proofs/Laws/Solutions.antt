-- The finished values of a sheet are its least solution, reached within wires plus one rounds.
use Rattle.std.specs.Prelude.{◌≡◌, suc, ◌≤◌, List}
use Rattle.kernel.specs.Order.{◌⊑*◌}
use Rattle.sheet.specs.Sheets.{Sheet}
use Rattle.sheet.specs.declared.Cell.{Cell}
use Rattle.kernel.specs.Systems.{Full, Solution}
use Rattle.kernel.specs.Instants.{wire_count, round, rounds, finished}
use Rattle.kernel.proofs.Laws.Rounds as Rounds
use Rattle.kernel.proofs.Laws.Instants.{round_monotone}
use Rattle.sheet.specs.declared.Datum.{Datum}
use Rattle.kernel.specs.declared.Value.{Value}

module _ (sheet : Sheet) (inputs : List Datum) (memory : List Cell) where
  pub finished_solution : Solution (round sheet inputs memory) (finished sheet inputs memory)
  unfolding finished
  finished_solution =
      Rounds.finished_solution (wire_count sheet) (round sheet inputs memory) (round_monotone sheet inputs memory)

  pub finished-least : (s : List Value) → Solution (round sheet inputs memory) s → finished sheet inputs memory ⊑* s
  unfolding finished
  finished-least =
      Rounds.finished-least (wire_count sheet) (round sheet inputs memory) (round_monotone sheet inputs memory)

  -- where no wire is left unknown there is no other
  pub only_solution : Full (wire_count sheet) (finished sheet inputs memory)
      → (s : List Value) → Solution (round sheet inputs memory) s → s ≡ finished sheet inputs memory
  unfolding finished
  only_solution =
      Rounds.only_solution (wire_count sheet) (round sheet inputs memory) (round_monotone sheet inputs memory)

  pub rounds_bound : rounds sheet inputs memory ≤ suc (wire_count sheet)
  unfolding rounds
  rounds_bound =
      Rounds.rounds_bound (wire_count sheet) (round sheet inputs memory) (round_monotone sheet inputs memory)
