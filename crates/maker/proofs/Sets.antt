-- Sets with one wire less, as the loops over a set have them.
use Prim.Native.Nat.{ℕ}
use mathlib.Core.Path.{◌≡◌, sym, ◌∙◌}
use mathlib.Core.Bool.{true, false, not, ◌&&◌}
use lib.Dec.{eqb}
use borrow.Author.Tests.{ne_eqb, eqb-false, not-true}
use Rattle.wires.specs.Sets.{member}
use Rattle.sheet.specs.Laws.Lists.{never, both}

-- the wires of a set without one of them
module _ (bits rest wire : ℕ) (without : (k : ℕ) → member rest k ≡ (member bits k && not (eqb k wire))) where
  pub taken_in : (x : ℕ) → (member bits x ≡ true) × (x ≡ wire → ⊥) → member rest x ≡ true
  taken_in x (i, other) = rw (without x, i, ne_eqb x wire other)

  pub taken_out : (x : ℕ) → member rest x ≡ true → (member bits x ≡ true) × (x ≡ wire → ⊥)
  taken_out x i =
      let (old, other) = both (member bits x) (not (eqb x wire)) (sym (without x) ∙ i) in
      (old, eqb-false x wire (not-true (eqb x wire) other))

pub none_left : (bits : ℕ) → ((x : ℕ) → member bits x ≡ false) → (x : ℕ) → member bits x ≡ true → ⊥
none_left bits none x i = never (cc (none x, i))
