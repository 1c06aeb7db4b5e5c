-- `awaited` meets its contract.
use Prim.Native.Nat.{◌+◌, ◌-◌}
use mathlib.Core.Path.{◌≡◌, refl}
use native.Mathlib.Omega.{arith}
use Rattle.expression.proofs.Views.{opened}
use Rattle.waiting.proofs.Walking.{begun, next-placed, further, others-behind, ended}
use Rattle.waiting.proofs.awaited.+awaited.Goals as goal

pub bounds-basis-here : goal.bounds-basis-here
bounds-basis-here t c = (opened c.requires.1).good.starts

pub loop-passed-init : goal.loop-passed-init
loop-passed-init t c =
    let all = c.count-counted.result.operands in
    let ahead : all - 0 ≡ all = omega arith in
    λ asked p. rw ahead (begun p c.args.fresh (c.count-counted.ensures asked p) c.none-found.ensures)

pub overflow_sub-level : goal.overflow_sub-level
overflow_sub-level t c = (opened c.requires.1).level-left

pub awaited-operand-requires : goal.awaited-operand-requires
awaited-operand-requires t c =
    let p = c.requires.1 in (
      omega (arith, (opened p).level-left),
      next-placed p c.args.fresh (c.loop-passed.invariant _ p) (omega (arith, c.loop-passed-test.true)),
    )

pub loop-passed-preserved : goal.loop-passed-preserved
loop-passed-preserved t c =
    let l = c.loop-passed in
    let all = c.count-counted.result.operands in
    let fewer : all - (l._passed + 1) ≡ all - l._passed - 1 = omega arith in
    λ asked p. rw fewer (further p c.args.fresh (l.invariant asked p) (omega (arith, c.loop-passed-test.true)) c.awaited-operand.ensures
    c.joined-found.ensures)

pub skip_all-requires : goal.skip_all-requires
skip_all-requires t c =
    let p = c.requires.1 in
    (_, _, others-behind p c.args.fresh (c.loop-passed.invariant _ p) (omega (arith, c.loop-passed-test.false)))

pub returns : goal.returns
returns t c =
    λ asked p. ended p c.args.fresh (c.loop-passed.invariant asked p) (omega (arith, c.loop-passed-test.false)) c.skip_all.ensures
    refl

pub of-requires : goal.of-requires
of-requires t c = (opened c.requires.1).good.kind
