-- What runs under the finished values of its wires, which are all known and solve the round, and the memory that they set.
use Rattle.std.specs.Prelude.{ℕ, List, length}
use Rattle.sheet.specs.Memory.{memory_bytes}
use Rattle.kernel.specs.Systems.{Full, Solution}
use Rattle.kernel.specs.Instants.{next_memory}
use Rattle.rounds.specs.Running.{round_of, RunningUnder}

pub record Settled (s memory types places firsts words : List ℕ) : Type 0 where
  pub row : List ℕ
  pub bits : ℕ
  pub under : RunningUnder s memory row types places firsts bits words
  pub full : Full (length types) under.values
  pub solves : Solution (round_of under.running) under.values

abbrev pub stored_of : {s memory types places firsts words : List ℕ} → Settled s memory types places firsts words → List ℕ
stored_of f =
    let given = f.under.running.given in memory_bytes (next_memory given.sheet given.inputs given.memory f.under.values)
