-- `put_raised` meets its contract. The loop's invariant: the bytes passed are put, each of them raised.
use Prim.Native.Nat.{◌+◌}
use native.Mathlib.Omega.{arith}
use lib.ListN.{length-map}
use Rattle.joining.proofs.Putting.{one-put}
use Rattle.joining.proofs.Raising.{stays-byte, raised_at}
use Rattle.joining.proofs.writing.put_raised.Goals as goal

pub overflow_add-joined : goal.overflow_add-joined
overflow_add-joined c =
    let i = c.loop-i.i in
    record { fits = stays-byte c.args.raise c.args.bytes.now i c.requires.1 c.loop-i-test.true (c.type_inv.bytes i).fits }

pub loop-i-preserved : goal.loop-i-preserved
loop-i-preserved c =
    let bytes = c.args.bytes.now in
    let raise = c.args.raise in
    let at = c.loop-i in
    let sized = length-map bytes (λ b. raise + b) in
    one-put _ _ _ at.i _ at.invariant (omega (arith, c.requires.0)) (omega arith) (raised_at raise bytes at.i c.loop-i-test.true)
