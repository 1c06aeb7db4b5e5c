-- `skip_all` meets its contract. The loop's invariant: the expressions ahead end where all of them do.
use Prim.Native.Nat.{◌+◌, ◌-◌}
use mathlib.Core.Path.{◌≡◌}
use native.Mathlib.Omega.{arith}
use Rattle.waiting.proofs.Walking.{one-past, all_past}
use Rattle.waiting.proofs.awaited.skip_all.Goals as goal

pub loop-passed-preserved : goal.loop-passed-preserved
loop-passed-preserved c =
    let l = c.loop-passed in
    let fewer : c.args.count - (l._passed + 1) ≡ c.args.count - l._passed - 1 = omega arith in
    λ n j b. rw fewer (one-past (l.invariant n j b) (omega (arith, c.loop-passed-test.true)) c.skip-end.ensures)

pub returns : goal.returns
returns c = λ n j b. all_past (c.loop-passed.invariant n j b) (omega (arith, c.loop-passed-test.false))
