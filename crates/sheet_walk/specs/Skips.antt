-- An expression that reads, for the walk past it: where it ends, and the count of cells behind it; and a walk that depends on a test.
use Rattle.std.specs.Prelude.{ℕ, ◌≡◌, Bool, true, false, List}
use Rattle.sheet.specs.Expressions.{Expression}
use Rattle.sheet.specs.Readings.{got, read_expression}
use Rattle.sheet_walk.specs.declared.Place.{Place}

pub record Readable (s : List ℕ) (at c : ℕ) : Type 0 where
  pub inputs : List ℕ
  pub wires : List ℕ
  pub level : ℕ
  pub asked : ℕ
  pub tree : Expression
  pub next : ℕ
  pub count : ℕ
  pub reads : read_expression inputs wires s level asked at c ≡ got tree next count

-- the expression was walked past where the test holds; where it fails, no step was made
pub record SkipsIf (test : Bool) (s : List ℕ) (here r : Place) : Type 0 where
  pub walks : test ≡ true → (p : Readable s here.at here.cell) → r ≡ record { at = p.next; cell = p.count }
  pub stays : test ≡ false → r ≡ here
