-- The depth of a wire, and the greatest depth of a sheet: K6's words of document 02, and how both are computed. The computed numbers are
-- defined for every sheet, and are those of K6 where the sheet has a schedule.
use Rattle.std.specs.Prelude.{◌≡◌, ℕ, zero, suc, max, ◌≤◌, ◌<◌, List, [], ◌∷◌}
use Rattle.sheet.specs.Sheets.{Sheet}
use Rattle.kernel.specs.Instants.{wire_count, reads_at}

-- the depth of the deepest of these wires, 0 where there is none
unfoldable pub deepest : (depth : ℕ → ℕ) → List ℕ → ℕ
deepest depth [] = 0
deepest depth (w ∷ ws) = max (depth w) (deepest depth ws)

-- of n wires: a wire's depth is 1 if it reads no wire, else one more than the deepest it reads
pub record Depths (reads_of : ℕ → List ℕ) (n : ℕ) (depth : ℕ → ℕ) : Type 0 where
  pub reads_none : (w : ℕ) → w < n → reads_of w ≡ [] → depth w ≡ 1
  pub reads_some : (w : ℕ) → w < n → (reads_of w ≡ [] → ⊥) → depth w ≡ suc (deepest depth (reads_of w))

-- the wires of a sheet have such depths within the instant, one of them this one, and none a greater one
pub record Deepest (sheet : Sheet) (greatest : ℕ) : Type 0 where
  pub depth : ℕ → ℕ
  pub are : Depths (reads_at sheet.expressions) (wire_count sheet) depth
  pub wire : ℕ
  pub in_range : wire < wire_count sheet
  pub has : depth wire ≡ greatest
  pub most : (w : ℕ) → w < wire_count sheet → depth w ≤ greatest

-- the depth, as far as k reads after one another show it
unfoldable pub depth_within : (reads_of : ℕ → List ℕ) → (k w : ℕ) → ℕ
depth_within reads_of zero w = 0
depth_within reads_of (suc k) w = suc (deepest (depth_within reads_of k) (reads_of w))

-- where there is a schedule, no more than the wires can be read after one another
unfoldable pub depth_of : Sheet → ℕ → ℕ
depth_of sheet = depth_within (reads_at sheet.expressions) (wire_count sheet)

unfoldable pub wires_below : ℕ → List ℕ
wires_below zero = []
wires_below (suc n) = n ∷ wires_below n

unfoldable pub greatest_depth : Sheet → ℕ
greatest_depth sheet = deepest (depth_of sheet) (wires_below (wire_count sheet))
