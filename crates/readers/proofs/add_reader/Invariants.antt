-- `add_reader` meets its contract. The loop's invariant: only the wires that are left have not got the reader.
use Rattle.readers.proofs.Gathering.{Adding}
use Rattle.readers.proofs.add_reader.Given as goal

abbrev pub invariant-loop-source : goal.invariant-loop-source
invariant-loop-source l = Adding l.initial.source-iterator.left.bits l.wire l.source-iterator.left.bits l.initial.readers l.readers
