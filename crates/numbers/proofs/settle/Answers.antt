-- `settle` gives the settled number: clamped to the two ends, it is the definition's.
use mathlib.Core.Path.{◌≡◌, refl, ap, ◌∙◌}
use mathlib.Core.Bool.{Bool, true, false, cond}
use lib.IntN.{ℤ}
use lib.Signed.{lt_z}
use mir.Syntax.{w32, w64}
use mir.Val.{of_z, to_z}
use mir.Facts.{to_z-of_z, sfits_widen}
use Rattle.std.specs.Int.{int_max, int_min}
use Rattle.numbers.specs.Numbers.{greatest, least, settled}
use Rattle.numbers.proofs.Laws.Nearest.{settled-fits}
use Rattle.numbers.proofs.settle.Goals as goal

clamped : (z : ℤ) → int_max least (int_min z greatest) ≡ settled z
unfolding settled
clamped z = go (lt_z greatest z)
  where
    go : (t : Bool) → int_max least (cond t greatest z) ≡ cond t greatest (cond (lt_z z least) least z)
    go true = refl
    go false = refl

pub returns : goal.returns
returns c =
    let is : c.clamp.result ≡ settled c.args.z = rw (to_z-of_z c.ranges.z) at c.clamp.ensures.value ∙ clamped c.args.z in
    let f = settled-fits c.args.z in
    ap (λ z. to_z w32 (of_z w32 (to_z w64 (of_z w64 z)))) is ∙ ap (λ z. to_z w32 (of_z w32 z)) (to_z-of_z {w = w64} (sfits_widen tt f)) ∙ to_z-of_z f
