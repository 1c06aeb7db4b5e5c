-- `types_of` meets its contract: the loop keeps the sets of the numbers and of the kept ones among the names passed, and the count.
use Prim.Native.Nat.{ℕ, ◌+◌}
use mathlib.Core.Bool.{Bool}
use mathlib.Core.Path.{◌≡◌}
use lib.Dec.{eqb}
use lib.ListN.{drop}
use Rattle.sheet.specs.Data.{plain_byte, is_kept}
use Rattle.sheet.specs.Sheets.{kept_count}
use Rattle.sheet_names.proofs.Numbers.{PassBefore}
use Rattle.sheet_names.proofs.types_of.Given as goal

-- a number wire's type byte, kept or not
abbrev pub is_number : ℕ → Bool
is_number b = eqb (plain_byte b) 1

abbrev pub invariant-loop-i : goal.invariant-loop-i
invariant-loop-i l =
    PassBefore is_number l.types l.i l.numbers.bits × PassBefore is_kept l.types l.i l.kept.bits
    × (l.count + kept_count (drop l.i l.types) ≡ kept_count l.types)
