-- `put_shifted` meets its contract. The loop's invariant: the bytes passed are put, shifted, and the others are still to be.
use Rattle.joining.proofs.Shifting.{Turn}
use Rattle.joining.proofs.writing.put_shifted.Given as goal

abbrev pub invariant-loop-i : goal.invariant-loop-i
invariant-loop-i l = Turn l.initial.joined l.at l.bytes l.wires l.inputs l.left l.raise l.i l.joined
