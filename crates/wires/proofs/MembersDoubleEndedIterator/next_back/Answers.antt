-- `next_back` of the wires of a set meets its contract: each wire that comes leaves one wire less.
use Prim.Native.Nat.{◌-◌, ◌<◌}
use native.Mathlib.Omega.{arith}
use Rattle.wires.specs.Laws.{tally-taken}
use Rattle.wires.proofs.MembersDoubleEndedIterator.next_back.Goals as goal

pub returns-clause-goes : goal.returns-clause-goes
returns-clause-goes c =
    let wire = c.end-end.result - 1 in
    let low : wire < 64 = omega (arith, c.if-end-eq0.false, c.end-end.ensures.within) in
    let here = c.end-end.ensures.highest wire (omega (arith, c.if-end-eq0.false)) in
    record { on = λ _. (tt, tt, tally-taken _ _ 64 wire low here c.without-self.ensures); keeps = tt; rests = λ _. tt }
