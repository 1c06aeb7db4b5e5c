-- The closure of a relation on wires: one or more steps, one after the other. Where a test tells the relation, `through` tests its
-- closure, letting in as wires between first none, then wire 0, then wire 1 and so on.
use Rattle.std.specs.Prelude.{◌≡◌, ℕ, zero, suc, ◌<◌, Bool, true, ◌||◌, ◌&&◌, List, get_or}
use Rattle.wires.specs.Sets.{member}
use Rattle.sheet.specs.Outcomes.{lowest}

infixr 5 ◌then◌
pub data Closure (R : ℕ → ℕ → Type 0) : ℕ → ℕ → Type 0 where
  one : {v w : ℕ} → R v w → Closure R v w
  ◌then◌ : {u v w : ℕ} → R u v → Closure R v w → Closure R u w

-- the test passes just where the relation holds
pub record Tells (test : ℕ → ℕ → Bool) (R : ℕ → ℕ → Type 0) : Type 0 where
  pub says : (v w : ℕ) → test v w ≡ true → R v w
  pub said : (v w : ℕ) → R v w → test v w ≡ true

module _ (test : ℕ → ℕ → Bool) where
  -- v leads to w, or it leads to k and k to w
  abbrev pub let_in : ℕ → ℕ → ℕ → Bool
  let_in k v w = test v w || (test v k && test k w)

-- v leads to w in one or more steps, with no wires between but those below k
unfoldable pub through : (test : ℕ → ℕ → Bool) → ℕ → ℕ → ℕ → Bool
through test zero v w = test v w
through test (suc k) v w = let_in (through test k) k v w

-- the lowest of n wires that leads to itself, or n where none does
unfoldable pub lowest_loop : (test : ℕ → ℕ → Bool) → ℕ → ℕ
lowest_loop test n = lowest (λ w. through test n w w) n

-- the place is the lowest of n wires that leads to itself
pub record LowestLoop (R : ℕ → ℕ → Type 0) (n place : ℕ) : Type 0 where
  pub in_range : place < n
  pub loops : Closure R place place
  pub lower : (w : ℕ) → w < place → Closure R w w → ⊥

-- a relation of n wires as a set for each wire, of those that it leads to
pub record Rows (test : ℕ → ℕ → Bool) (n : ℕ) (rows : List ℕ) : Type 0 where
  pub same : (v w : ℕ) → v < n → member (get_or rows v 0) w ≡ test v w
