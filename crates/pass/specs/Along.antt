-- What a pass along a list of wires asks for, and the values that it comes to.
use Rattle.std.specs.Prelude.{ℕ, ◌≤◌, ◌<◌, ◌≡◌, List, length, get_or}
use Rattle.kernel.specs.Schedules.{pass}
use Rattle.kernel.specs.declared.Value.{Value}
use Rattle.leaves.specs.Words.{fixed_words}
use Rattle.rounds.specs.Running.{Running}
use Rattle.rounds.specs.declared.Instant.{Instant}

-- what runs, and a list that names wires, none of them twice
pub record Along (s memory types places firsts list words : List ℕ) : Type 0 where
  pub running : Running s memory (fixed_words words) types places firsts
  pub wires : (p : ℕ) → p < length list → get_or list p 0 < length types
  pub once : (p q : ℕ) → p < q → q < length list → get_or list p 0 ≡ get_or list q 0 → ⊥
  pub room : length types ≤ length words

-- the same of what an instant runs on
abbrev pub AlongOn : Instant → (list words : List ℕ) → Type 0
AlongOn i list words = Along i.sheet.now i.memory.now i.types.now i.places.now i.firsts.now list words

abbrev pub passed_of : {s memory types places firsts list words : List ℕ} → Along s memory types places firsts list words
    → List Value
passed_of {list = list} a = let given = a.running.given in pass given.sheet given.inputs given.memory list
