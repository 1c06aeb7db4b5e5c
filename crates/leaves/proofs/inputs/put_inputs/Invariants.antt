-- `put_inputs` meets its contract. The loop's invariant: the entries before i are put.
use Prim.Native.Nat.{ℕ, ◌+◌, ◌<◌}
use mathlib.Core.Path.{◌≡◌}
use lib.ListN.{length, get_or}
use Rattle.sheet.specs.Rows.{entry_at}
use Rattle.leaves.specs.Words.{first_input, word_count}
use Rattle.leaves.proofs.inputs.put_inputs.Given as goal

abbrev pub invariant-loop-i : goal.invariant-loop-i
invariant-loop-i l =
    (length l.words ≡ word_count) × ((j : ℕ) → j < l.i → get_or l.words (first_input + j) 0 ≡ entry_at l.input j)
