-- The expression of a wire and what is around it where the wire is kept: its value, what it waits for and what it stores are those of the
-- expression itself, whose cells come behind the wire's own; and the wire's own cell gets its value.
use Rattle.std.specs.Prelude.{ℕ, ◌+◌, ◌≡◌, Bool}
use Rattle.std.proofs.Math.Bool.{true, false, cond}
use mathlib.Core.List.{List, [], ◌∷◌, ◌++◌}
use Rattle.std.proofs.Math.Nat.{add-zero}
use Rattle.std.proofs.Math.Numerals.{add-one}
use Rattle.sheet.specs.Data.{is_kept, wire_type}
use Rattle.sheet.specs.Expressions.{Expression, kept}
use Rattle.sheet.specs.Sheets.{wire_tree, own_cells}
use Rattle.sheet.specs.declared.Cell.{Cell}
use Rattle.sheet.specs.declared.Cell.TheVariants.{Started}
use Rattle.kernel.specs.Values.{datum_in}
use Rattle.kernel.specs.Instant.{Environment, value, stored}
use Rattle.kernel.specs.Waits.{wires_awaited}
use Rattle.kernel.specs.declared.Value.{Value}

-- what a wire with this type byte and this value stores in a cell of its own
abbrev pub own_stored : ℕ → Value → List Cell
own_stored b v = cond (is_kept b) (Started (datum_in v) ∷ []) []

module _ (now : Environment) (fresh : Bool) (b : ℕ) (e : Expression) (k : ℕ) where
  pub tree-value : value now fresh (wire_tree b e) k ≡ value now fresh e (k + own_cells b)
  unfolding value
  tree-value = go (is_kept b)
    where
      go : (t : Bool) → value now fresh (cond t (kept (wire_type b) e) e) k ≡ value now fresh e (k + cond t 1 0)
      go true = rw add-one
      go false = rw add-zero

  pub tree-awaited : wires_awaited now fresh (wire_tree b e) k ≡ wires_awaited now fresh e (k + own_cells b)
  unfolding wires_awaited
  tree-awaited = go (is_kept b)
    where
      go : (t : Bool) → wires_awaited now fresh (cond t (kept (wire_type b) e) e) k ≡ wires_awaited now fresh e (k + cond t 1 0)
      go true = rw add-one
      go false = rw add-zero

  pub tree-stored : stored now fresh (wire_tree b e) k
      ≡ own_stored b (value now fresh e (k + own_cells b)) ++ stored now fresh e (k + own_cells b)
  unfolding stored
  tree-stored = go (is_kept b)
    where
      go : (t : Bool) → stored now fresh (cond t (kept (wire_type b) e) e) k
          ≡ cond t (Started (datum_in (value now fresh e (k + cond t 1 0))) ∷ []) [] ++ stored now fresh e (k + cond t 1 0)
      go true = rw add-one
      go false = rw add-zero
