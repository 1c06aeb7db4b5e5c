-- `gather` meets its contract. The loop's invariant: the table has the readers among the first wires.
use mathlib.Core.Path.{◌≡◌}
use lib.ListN.{length}
use Rattle.readers.specs.Readers.{Readers}
use Rattle.readers.proofs.gather.Given as goal

abbrev pub invariant-loop-wire : goal.invariant-loop-wire
invariant-loop-wire l = (length l.readers ≡ length l.initial.readers) × Readers l.reads l.wire l.readers
