-- Sets that hold just the wires of a list: the empty one, one with a wire more, and the test of one within another.
use Rattle.std.specs.Prelude.{ℕ, ◌≡◌, refl, Bool, true, false, ◌||◌, List, [], ◌∷◌, ◌++◌, eqb}
use Rattle.std.proofs.Common.{sym, ap, ◌∙◌}
use Rattle.std.proofs.Math.Bool.{or-false}
use Rattle.wires.specs.Sets.{member, TestsWithin}
use Rattle.sheet.specs.Lists.{among, all_among}
use Rattle.sheet.specs.Laws.Lists.{among-append, each-among, among-each}
use Rattle.sheet_expressions.specs.Map.{HoldsJust}

pub holds-none : {bits : ℕ} → ((w : ℕ) → member bits w ≡ false) → HoldsJust bits []
unfolding among
holds-none empty = record { same = empty }

pub holds_more : {bits more : ℕ} {ws : List ℕ} (x : ℕ) → HoldsJust bits ws → ((w : ℕ) → member more w ≡ (member bits w || eqb w x))
    → HoldsJust more (ws ++ (x ∷ []))
unfolding among
holds_more {ws = ws} x holds added =
    record { same = λ w. rw (among-append w ws (x ∷ []), or-false) (added w ∙ ap (λ b. b || eqb w x) (holds.same w)) }

-- the test of two sets is the test of their lists
pub within-among : {n m : ℕ} {ws ys : List ℕ} (r : Bool) → HoldsJust n ws → HoldsJust m ys → TestsWithin n m r → all_among ws ys ≡ r
within-among {ws = ws} {ys} true inner outer test =
    among-each ws ys (λ k e. sym (outer.same k) ∙ test.all refl k (inner.same k ∙ e))
within-among {n} {m} {ws} {ys} false inner outer test = go (all_among ws ys) refl
  where
    go : (t : Bool) → all_among ws ys ≡ t → t ≡ false
    go false e = refl
    go true e = sym (test.only (λ k i. outer.same k ∙ each-among ws ys e k (sym (inner.same k) ∙ i)))
