-- What the steps of the maker's code come to: depths that were noted, positions that were filled, and what is left in the lent list.
use Rattle.std.specs.Prelude.{ℕ, ◌≤◌, ◌<◌, ◌≡◌, List, take, get_or, Result}
use Rattle.sheet.specs.Outcomes.{holds_after, lowest}
use Rattle.sheet.specs.Sheets.{Sheet}
use Rattle.kernel.specs.Depths.{deepest, Depths}
use Rattle.maker.specs.Making.{ready, placed_by, made_of, made_answer}
use Rattle.sheet.specs.declared.Refused.{Refused}

-- the depth noted for a wire, in a table of 64
abbrev pub noted : (depths : List ℕ) → ℕ → ℕ
noted depths w = get_or depths w 0

-- the first r positions are filled as the definition says, with wires of this greatest depth; and then each wire has its position, or no
-- wire is ready
pub record Placed (reads_of : ℕ → List ℕ) (n : ℕ) (order : List ℕ) (r greatest : ℕ) : Type 0 where
  pub few : r ≤ n
  pub list : take r order ≡ placed_by reads_of n r
  pub filled : (p : ℕ) → p < r → lowest (ready reads_of (placed_by reads_of n p)) n < n
  pub ended : r < n → lowest (ready reads_of (placed_by reads_of n r)) n ≡ n
  pub greatest_is : (depth : ℕ → ℕ) → Depths reads_of n depth → greatest ≡ deepest depth (placed_by reads_of n r)

-- the answer and the list are those of a sheet that passes the check
pub record Makes (sheet : Sheet) (lent : List ℕ) (answer : Result ℕ Refused) (list : List ℕ) : Type 0 where
  pub answers : answer ≡ made_answer (made_of sheet lent)
  pub leaves : list ≡ holds_after (made_of sheet lent) (λ made. made.list) lent
