-- The wires that are still to be placed, by what they wait for: a set of those that are ready, and for each wire the set of those that
-- wait for it. A wire that is not ready waits for one wire that it reads, and is looked at again when that one is placed.
use Rattle.std.specs.Prelude.{ℕ, ◌<◌, ◌≡◌, true, false, List, ◌⊎◌, get_or}
use Rattle.wires.specs.Sets.{member}
use Rattle.sheet.specs.Lists.{among, all_among}

module _ (reads_of : ℕ → List ℕ) (n : ℕ) (placed : List ℕ) where
  -- x is one of n wires, and not placed
  pub record Unplaced (x : ℕ) : Type 0 where
    pub is_wire : x < n
    pub new : among x placed ≡ false

  -- x waits for a wire that it reads and that is not placed
  pub record Awaits (waiting : List ℕ) (x : ℕ) : Type 0 where
    pub wire : ℕ
    pub new : among wire placed ≡ false
    pub read : among wire (reads_of x) ≡ true
    pub noted : member (get_or waiting wire 0) x ≡ true

  -- those of `Left` are still to be looked at; every other wire that is not placed is ready, or waits
  pub record Queue (Left : ℕ → Type 0) (ready : ℕ) (waiting : List ℕ) : Type 0 where
    pub left : (x : ℕ) → Left x → Unplaced x
    pub is_ready : (x : ℕ) → member ready x ≡ true → Unplaced x × (all_among (reads_of x) placed ≡ true)
    pub waits : (v x : ℕ) → among v placed ≡ false → member (get_or waiting v 0) x ≡ true → Unplaced x × (among v (reads_of x) ≡ true)
    pub each : (x : ℕ) → Unplaced x → Left x ⊎ ((member ready x ≡ true) ⊎ Awaits waiting x)
