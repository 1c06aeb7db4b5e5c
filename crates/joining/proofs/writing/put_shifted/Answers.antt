-- `put_shifted` meets its contract. The loop's invariant: the bytes passed are put, shifted, and the others are still to be.
use Rattle.joining.proofs.Shifting.{last_turn, kind-here, kind-turn, body-stays, body-turn}
use Rattle.joining.proofs.writing.put_shifted.Goals as goal

pub of-kind-requires : goal.of-kind-requires
of-kind-requires c = kind-here _ _ _ _ _ c.loop-i.invariant c.loop-i-test.true c.if-left-eq0.true

pub overflow_add-joined-else-left-eq0 : goal.overflow_add-joined-else-left-eq0
overflow_add-joined-else-left-eq0 c =
    let at = c.loop-i in
    record {
      fits = body-stays _ _ _ _ _ at.invariant c.loop-i-test.true c.if-left-eq0.false
          (c.type_inv.bytes at.i).fits;
    }

pub loop-i-preserved : goal.loop-i-preserved
loop-i-preserved c =
    let at = c.loop-i in
    let inside = c.loop-i-test.true in
    elim c.if-left-eq0.branch [
      | goal.then-left-eq0 w ↦ rw (w.joined-is, w.left-is, w.raise-is, w.body-left.ensures, w.raise_of-raise.ensures, w.of-kind.ensures) (kind-turn _ _ _ _ _ at.invariant inside c.requires.0 w.if-left-eq0.true)
      | goal.else-left-eq0 w ↦ rw (w.joined-is, w.left-is, w.raise-is)
          (body-turn _ _ _ _ _ at.invariant inside w.if-left-eq0.false (c.type_inv.bytes at.i).fits c.requires.0)
    ]

pub returns : goal.returns
returns c = last_turn _ _ _ _ _ _ c.loop-i.invariant c.loop-i-test.false
