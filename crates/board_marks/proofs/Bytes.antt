-- Marks of up to eight sheets, and the byte that has them.
use Prim.Native.Nat.{ℕ, ◌%◌, ◌^◌, ◌≤◌, ◌<◌}
use mathlib.Core.Path.{◌≡◌, sym, ap, ◌∙◌}
use mathlib.Core.Bool.{Bool, ◌&&◌, ◌||◌}
use native.Mathlib.Nat.{mod-eq_of_lt, lt_of_lt_of_le}
use native.Mathlib.Omega.{arith}
use lib.Dec.{ltb}
use lib.Pow.{pow_mono}
use Rattle.wires.specs.Sets.{member}
use Rattle.wires.specs.Laws.{same-members}
use Rattle.board.specs.Marks.{marks_of}
use Rattle.board.proofs.Laws.Marks.{marks-back, marks-below}
use Rattle.board_marks.specs.Sets.{MarksJust}

-- what is due now or was before, of the first n
pub due-just : (due stored n all first both : ℕ) → ((k : ℕ) → member all k ≡ (member due k || member stored k))
    → ((k : ℕ) → member first k ≡ ltb k n) → ((k : ℕ) → member both k ≡ (member first k && member all k))
    → MarksJust both n (λ k. member due k || member stored k)
due-just due stored n all first both joined firsts common = record { each = λ k. rw (common k, firsts k, joined k) }

pub byte-is : (bits n : ℕ) (test : ℕ → Bool) → bits < 2 ^ 64 → n ≤ 8 → MarksJust bits n test → bits % 256 ≡ marks_of test n
byte-is bits n test wide few just = ap (λ m. m % 256) same ∙ mod-eq_of_lt (below 8 few)
  where
    below : (m : ℕ) → n ≤ m → marks_of test n < 2 ^ m
    below m l = lt_of_lt_of_le (marks-below test n) (pow_mono l)

    same : bits ≡ marks_of test n
    same = same-members 64 bits (marks_of test n) wide (below 64 (omega arith)) (λ k. just.each k ∙ sym (marks-back test n k))
