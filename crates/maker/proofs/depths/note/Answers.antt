-- `note` meets its contract: what was noted before is below 64, so that one more fits.
use native.Mathlib.Omega.{arith}
use Rattle.maker.proofs.depths.note.Goals as goal

pub overflow_add-depth : goal.overflow_add-depth
overflow_add-depth c =
    let few = c.deepest_of-depth.ensures.by_index_2 63 (λ w. omega (arith, c.requires.2 w)) in
    record { fits = omega (arith, few) }
