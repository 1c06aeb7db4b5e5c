-- A system of n wires, whose function `next` works all of them out from their values: rounds, the finished values, solutions,
-- visits to one wire at a time, and rounds that pass known wires over.
use Rattle.std.specs.Prelude.{ℕ, zero, suc, ◌<◌, ◌≡◌, Bool, true, List, [], ◌∷◌, length, set}
use Rattle.sheet.specs.Outcomes.{lowest}
use Rattle.kernel.specs.Values.{IsKnown}
use Rattle.kernel.specs.Order.{◌⊑*◌, value_at, all_unknown}
use Rattle.kernel.specs.Equality.{same_values}
use Rattle.sheet.specs.Lists.{among}
use Rattle.kernel.specs.declared.Value.{Value}
use Rattle.kernel.specs.declared.Value.TheVariants.{Unknown, Known}

-- no wire is unknown
unfoldable pub Full : ℕ → List Value → Type 0
Full n values = (w : ℕ) → w < n → IsKnown (value_at values w)

-- every wire is on the list
unfoldable pub Covers : ℕ → List ℕ → Type 0
Covers n ws = (w : ℕ) → w < n → among w ws ≡ true

-- `next` gives n values, and what it gives grows with what it is given
pub record Monotone (n : ℕ) (next : List Value → List Value) : Type 0 where
  pub sized : (xs : List Value) → length (next xs) ≡ n
  pub grows : (xs ys : List Value) → xs ⊑* ys → next xs ⊑* next ys

-- a known value stays as it was, an unknown one becomes what is worked out
abbrev pub kept_or : (before worked : Value) → Value
kept_or Unknown worked = worked
kept_or (Known d) worked = Known d

unfoldable pub renewed : (worked : ℕ → Value) → List Value → List Value
renewed worked [] = []
renewed worked (v ∷ vs) = kept_or v (worked 0) ∷ renewed (λ w. worked (suc w)) vs

module _ (next : List Value → List Value) where
  -- K4's round over any values, even false ones: each known wire comes back as it was, each unknown one gets what is worked out for it
  -- from the values given
  unfoldable pub round_over : List Value → List Value
  round_over values = renewed (value_at (next values)) values

  -- known or unknown, each wire has just what is worked out under these values
  unfoldable pub Solution : List Value → Type 0
  Solution values = next values ≡ values

  -- the least solution, as document 01 has it: it knows a wire only where all solutions know it, with the same value
  pub record LeastSolution (values : List Value) : Type 0 where
    pub solves : Solution values
    pub least : (s : List Value) → Solution s → values ⊑* s

  unfoldable pub visit : ℕ → List Value → List Value
  visit w values = set values w (value_at (next values) w)

  unfoldable pub visits : List ℕ → List Value → List Value
  visits [] values = values
  visits (w ∷ ws) values = visits ws (visit w values)

  unfoldable pub sweeps : List (List ℕ) → List Value → List Value
  sweeps [] values = values
  sweeps (ws ∷ rest) values = sweeps rest (visits ws values)

module _ (n : ℕ) (next : List Value → List Value) where
  -- the values after k rounds: round 0 has every wire unknown
  unfoldable pub after : ℕ → List Value
  after zero = all_unknown n
  after (suc k) = next (after k)

  -- the round after the k-th changes nothing
  unfoldable pub unchanged : ℕ → Bool
  unchanged k = same_values (after k) (after (suc k))

  -- the number of the first round that changes nothing
  unfoldable pub rounds : ℕ
  rounds = suc (lowest unchanged n)

  unfoldable pub finished : List Value
  finished = after rounds
