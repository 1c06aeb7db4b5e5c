-- `round` meets its contract. The loop's invariant: the wires that are not left have their new values, and the words still hold the old ones.
use Rattle.rounds.proofs.Rounding.{begun, placed, further, round-done}
use Rattle.rounds.proofs.round.Goals as goal

pub loop-w-init : goal.loop-w-init
loop-w-init c =
    λ b. rw (c.into_iter-w-iterator.ensures.into_iter_gives, c.rev-w-items.ensures.source, c.into_iter.ensures.into_iter_gives)
    (begun b c.minus.ensures)

pub value_of_wire-worth-requires : goal.value_of_wire-worth-requires
value_of_wire-worth-requires c =
    let m = c.loop-w.invariant c.requires in
    placed c.requires m (m.ahead _ c.in-Some.ensures.steps.present).0 c.place_of-here.ensures

pub loop-w-preserved : goal.loop-w-preserved
loop-w-preserved c =
    let taken = c.in-Some.ensures.steps in
    let v = c.value_of_wire-worth in
    let stands = c.place_of-here.ensures in
    λ b. let m = c.loop-w.invariant b in
    let within = (m.ahead _ taken.present).0 in
    further b m taken.present within stands v.result (v.ensures (placed b m within stands)) c.put_value-grown.ensures taken.others

pub returns : goal.returns
returns c = λ b. round-done b (c.loop-w.invariant b) c.in-None.ensures.steps
