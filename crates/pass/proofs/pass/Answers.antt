-- `pass` meets its contract. The loop's invariant: the set and the words hold the values after the positions passed.
use native.Mathlib.Omega.{arith}
use Rattle.pass.proofs.Passing.{unpassed, placed, further, passed}
use Rattle.pass.proofs.pass.Goals as goal

pub loop-wire-init : goal.loop-wire-init
loop-wire-init c = λ a. unpassed a c.none-known.ensures

pub value_of_wire-worth-requires : goal.value_of_wire-worth-requires
value_of_wire-worth-requires c =
    let a = c.requires in
    placed a (c.loop-wire.invariant a) c.loop-wire-test.true c.place_of-here.ensures

pub put_value-known-requires : goal.put_value-known-requires
put_value-known-requires c =
    let a = c.requires in
    let inside = a.wires c.loop-wire.wire-index c.loop-wire-test.true in
    (omega (arith, inside, a.running.few), omega (arith, inside, (c.loop-wire.invariant a).holds.room))

pub loop-wire-preserved : goal.loop-wire-preserved
loop-wire-preserved c =
    let more = c.loop-wire-test.true in
    let stands = c.place_of-here.ensures in
    let v = c.value_of_wire-worth in
    λ a. let sofar = c.loop-wire.invariant a in
    further a sofar more stands v.result (v.ensures (placed a sofar more stands)) c.put_value-known.ensures

pub returns : goal.returns
returns c = λ a. passed a (c.loop-wire.invariant a) (omega arith)
