-- `look_again` meets its contract: each wire of the set was looked at.
use mathlib.Core.Path.{◌∙◌}
use Rattle.wires.specs.Sets.{member}
use Rattle.maker.proofs.Laws.Queue.{queue_left}
use Rattle.maker.proofs.Sets.{taken_out, taken_in, none_left}
use Rattle.maker.proofs.placing.look_again.Goals as goal

pub loop-wire-preserved : goal.loop-wire-preserved
loop-wire-preserved c =
    let at = c.loop-wire in
    let took = c.in-Some.ensures.steps in (
      c.look_at-found.ensures.waiting_len_unchanged ∙ at.invariant.0,
      λ reads_of n list held holds q.
          let now = at.invariant.1 reads_of n list held holds q in
          queue_left reads_of n (λ x l. taken_in _ _ _ took.others x l) (λ x i. taken_out _ _ _ took.others x i)
          (c.look_at-found.ensures.by_index reads_of n list (member at.wire-iterator.left.bits) (held _ (now.left _ took.present).is_wire) holds
          took.present now),
    )

pub returns-clause-by_index : goal.returns-clause-by_index
returns-clause-by_index c =
    λ reads_of n list held holds q.
    let first = rw c.into_iter-wire-iterator.ensures.into_iter_gives at (c.loop-wire.invariant.1 reads_of n list held holds) in
    queue_left reads_of n (λ x i. none_left _ c.in-None.ensures.steps x i) (λ x none. absurd none) (first q)
