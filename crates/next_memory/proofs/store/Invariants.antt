-- `store` meets its contract. The loop's invariant: the wires below w have stored their cells.
use Prim.Native.Nat.{◌≤◌}
use mathlib.Core.Path.{◌≡◌}
use lib.ListN.{length}
use Rattle.rounds.specs.Settled.{Settled}
use Rattle.next_memory.proofs.Storing.{Stored}
use Rattle.next_memory.proofs.store.Given as goal

abbrev pub invariant-loop-w : goal.invariant-loop-w
invariant-loop-w l =
    (length l.types ≤ 64) × (length l.memory ≡ length l.initial.memory)
    × ((f : Settled l.sheet l.initial.memory l.types l.map.places l.map.firsts l.words) → Stored f l.w l.memory)
