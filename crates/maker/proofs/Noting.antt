-- The depths that are noted as wires are placed, and the greatest of those of a set.
use Prim.Native.Nat.{ℕ, zero, suc, max, ◌≤◌, ◌<◌, zero-le}
use mathlib.Core.Path.{◌≡◌, refl, sym, ap, ◌∙◌}
use mathlib.Core.Bool.{true, false}
use mathlib.Core.List.{List, [], ◌∷◌, ◌++◌}
use mathlib.Core.Logic.{◌⊎◌, inl, inr, ⊎_elim}
use lib.Dec.{eqb}
use lib.ListN.{length, set, replicate}
use lib.Seq.{get_or-set_same, get_or-set_other}
use native.Mathlib.Omega.{arith}
use borrow.Author.Tests.{eqb-false}
use Rattle.wires.specs.Sets.{member}
use Rattle.sheet.specs.Lists.{among, all_among}
use Rattle.sheet.specs.Laws.Lists.{never, either, each-among}
use Rattle.sheet_expressions.specs.Map.{HoldsJust}
use Rattle.kernel.specs.Depths.{deepest, Depths}
use Rattle.kernel.proofs.Laws.Depths.{deepest-over, deepest-within, deepest-append, deepest-same, one_more}
use Rattle.maker.specs.Placing.{noted}
use Rattle.maker.proofs.Laws.Queue.{same-or-other, among-one-more}

-- of the wires of a set all but those that are left were passed, and this is the greatest depth noted for one that was
pub record Passed (depths : List ℕ) (bits left greatest : ℕ) : Type 0 where
  pub inside : (x : ℕ) → member left x ≡ true → member bits x ≡ true
  pub over : (x : ℕ) → member bits x ≡ true → (member left x ≡ true) ⊎ (noted depths x ≤ greatest)
  pub least : (most : ℕ) → ((x : ℕ) → member bits x ≡ true → noted depths x ≤ most) → greatest ≤ most

module _ (depths : List ℕ) (bits : ℕ) where
  -- no wire is left: it is the deepest of the set
  pub all-passed : {left greatest : ℕ} → Passed depths bits left greatest → ((x : ℕ) → member left x ≡ true → ⊥)
      → (wires : List ℕ) → HoldsJust bits wires → greatest ≡ deepest (noted depths) wires
  all-passed {left} {greatest} p none wires held =
      let above = deepest-within (noted depths) greatest wires (λ x e.
      ⊎_elim (λ (i : member left x ≡ true). absurd (none x i)) (λ (l : noted depths x ≤ greatest). l) (p.over x (held.same x ∙ e))) in
      let below = p.least (deepest (noted depths) wires) (λ x i. deepest-over (noted depths) wires x (sym (held.same x) ∙ i)) in
      omega arith

-- at first no depth is noted
pub nothing-noted : (m w : ℕ) → noted (replicate m 0) w ≤ 0
nothing-noted zero w = zero-le
nothing-noted (suc m) zero = zero-le
nothing-noted (suc m) (suc w) = nothing-noted m w

-- the depth of each wire placed is noted, and this is the greatest
pub record Noted (depth : ℕ → ℕ) (placed depths : List ℕ) (greatest : ℕ) : Type 0 where
  pub each : (x : ℕ) → among x placed ≡ true → noted depths x ≡ depth x
  pub greatest_is : greatest ≡ deepest depth placed

pub none-noted : (depth : ℕ → ℕ) (depths : List ℕ) → Noted depth [] depths 0
unfolding deepest among
none-noted depth depths = record { each = λ x e. never (cc); greatest_is = refl }

-- a wire that is ready is placed, with one more than the deepest depth noted for those that it reads
pub one-noted : {reads_of : ℕ → List ℕ} {n : ℕ} {depth : ℕ → ℕ} → Depths reads_of n depth
    → {placed depths : List ℕ} {greatest : ℕ} → Noted depth placed depths greatest → (wire : ℕ) → wire < n → wire < length depths
    → among wire placed ≡ false → all_among (reads_of wire) placed ≡ true
    → let deeper = suc (deepest (noted depths) (reads_of wire)) in
    Noted depth (placed ++ (wire ∷ [])) (set depths wire deeper) (max greatest deeper)
one-noted {reads_of} {n} {depth} is {placed} {depths} {greatest} noting wire in_range room new ready =
    record {
      each = λ x e. each x (same-or-other x wire) (either (among x placed) (eqb x wire) (sym (among-one-more x wire placed) ∙ e));
      greatest_is = rw (same, noting.greatest_is) (sym (deepest-append depth placed wire));
    }
  where
    deeper : ℕ
    deeper = suc (deepest (noted depths) (reads_of wire))

    same : deeper ≡ depth wire
    same =
        ap suc (deepest-same (noted depths) depth (reads_of wire) (λ x read.
        noting.each x (each-among (reads_of wire) placed ready x read)))
        ∙ sym (one_more is wire in_range)

    each : (x : ℕ) → (x ≡ wire) ⊎ (eqb x wire ≡ false) → (among x placed ≡ true) ⊎ (eqb x wire ≡ true)
        → noted (set depths wire deeper) x ≡ depth x
    each x (inl e) which = rw e (get_or-set_same depths wire deeper 0 room ∙ same)
    each x (inr other) (inl i) = get_or-set_other depths wire x deeper 0 (eqb-false x wire other) ∙ noting.each x i
    each x (inr other) (inr e) = never (cc (e, other))
