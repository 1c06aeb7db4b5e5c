-- `put_lasts` meets its contract. The loop's invariant: the words of the kept wires before w are put.
use mathlib.Core.Path.{sym, ◌∙◌}
use native.Mathlib.Omega.{arith}
use Rattle.leaves.specs.Words.{KeptCells, LastsPut}
use Rattle.leaves.proofs.Putting.{none-put, one-put, one-passed}
use Rattle.leaves.proofs.lasts.put_lasts.Goals as goal

pub loop-w-init : goal.loop-w-init
loop-w-init c = none-put _ _ _ _ c.requires.2

pub overflow_sub-length_of : goal.overflow_sub-length_of
unfolding KeptCells
overflow_sub-length_of c =
    let kept = sym c.is_kept.ensures ∙ c.if-is_kept.true in
    omega (arith, (c.requires.0 _ (omega arith) kept).some, c.length_of.ensures.0)

pub word_in-requires : goal.word_in-requires
unfolding KeptCells
word_in-requires c =
    let kept = sym c.is_kept.ensures ∙ c.if-is_kept.true in
    omega (arith, (c.requires.0 _ (omega arith) kept).some, (c.requires.0 _ (omega arith) kept).fits, c.length_of.ensures.0)

pub loop-w-preserved : goal.loop-w-preserved
loop-w-preserved c =
    let at = c.loop-w in
    elim c.if-is_kept.branch [ goal.then-is_kept w ↦ rw w.words-is (one-put _ _ _ _ at.invariant (omega arith) (w.word_in.ensures ∙ rw w.length_of.ensures.0)) | goal.else-is_kept w ↦ rw w.words-is (one-passed _ _ _ _ at.invariant (sym c.is_kept.ensures ∙ w.if-is_kept.false)) ]

pub returns : goal.returns
unfolding LastsPut
returns c =
    let at = c.loop-w in
    (λ w l k. at.invariant.put w (omega arith) k, at.invariant.sized, at.invariant.others)
