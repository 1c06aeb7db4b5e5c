-- `of_any` meets its contract. The loop's invariant: the readers of the wires that are not left are collected.
use Rattle.readers.proofs.Gathering.{Collected}
use Rattle.readers.proofs.of_any.Given as goal

abbrev pub invariant-loop-source : goal.invariant-loop-source
invariant-loop-source l = Collected l.readers l.initial.source-iterator.left.bits l.source-iterator.left.bits l.all.bits
