-- `pass` meets its contract. The loop's invariant: the set and the words hold the values after the positions passed.
use Rattle.pass.specs.Along.{AlongOn}
use Rattle.pass.proofs.Passing.{Sofar}
use Rattle.pass.proofs.pass.Given as goal

abbrev pub invariant-loop-wire : goal.invariant-loop-wire
invariant-loop-wire l = (a : AlongOn l.instant l.list l.initial.words) → Sofar a l.wire-index l.known.bits l.words
