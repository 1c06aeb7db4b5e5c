-- `deepest_of` meets its contract: every wire of the set was passed.
use Rattle.maker.proofs.Sets.{none_left}
use Rattle.maker.proofs.Noting.{all-passed}
use Rattle.maker.proofs.depths.deepest_of.Goals as goal

pub returns : goal.returns
returns c =
    let e = c.into_iter-wire-iterator.ensures.into_iter_gives in
    let inv = c.loop-wire.invariant in
    record {
      by_index = rw e at (all-passed _ _ inv (none_left _ c.in-None.ensures.steps));
      by_index_2 = λ most h. inv.least most (λ x i. h x);
    }
