-- `write_row` meets its contract. The loop's invariant: the words that are left, put behind those of the outputs passed, make the row.
use Prim.Native.Nat.{◌*◌}
use mathlib.Core.Path.{◌≡◌}
use lib.ListN.{drop}
use lib.Seq.{sets}
use Rattle.rounds.specs.Outputs.{words_of}
use Rattle.rounds.proofs.write_row.Given as goal

abbrev pub invariant-loop-i : goal.invariant-loop-i
invariant-loop-i l = sets l.row (4 * l.i) (words_of (drop l.i l.outputs) l.words) ≡ words_of l.outputs l.words
