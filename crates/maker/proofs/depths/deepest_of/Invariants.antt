-- `deepest_of` meets its contract. The loop's invariant: the greatest depth is that of the wires passed.
use Rattle.maker.proofs.Noting.{Passed}
use Rattle.maker.proofs.depths.deepest_of.Given as goal

abbrev pub invariant-loop-wire : goal.invariant-loop-wire
invariant-loop-wire l = Passed l.depths l.initial.wire-iterator.left.bits l.wire-iterator.left.bits l.deepest
