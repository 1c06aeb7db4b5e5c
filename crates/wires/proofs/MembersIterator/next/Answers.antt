-- `next` of the wires of a set meets its contract: each wire that comes leaves one wire less.
use Prim.Native.Nat.{◌<◌}
use native.Mathlib.Omega.{arith}
use Rattle.wires.specs.Laws.{tally-taken}
use Rattle.wires.proofs.MembersIterator.next.Goals as goal

pub returns-clause-goes : goal.returns-clause-goes
returns-clause-goes c =
    let low : c.lowest-wire.result < 64 = omega (arith, c.if-wire-eq64.false, c.lowest-wire.ensures.within) in
    let here = c.lowest-wire.ensures.present low in
    record { on = λ _. (tt, tt, tally-taken _ _ 64 _ low here c.without-self.ensures); keeps = tt; rests = λ _. tt }
