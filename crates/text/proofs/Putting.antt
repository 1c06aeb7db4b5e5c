-- Pieces put one after another are one piece.
use Prim.Native.Nat.{ℕ}
use mathlib.Core.Path.{◌≡◌, sym, ap, ◌∙◌}
use mathlib.Core.List.{List, ◌++◌}
use native.Mathlib.Omega.{arith}
use lib.ListN.{length, length-append}
use lib.Seq.{length-sets}
use Rattle.numbers.specs.Laws.{sets-append}
use Rattle.text.specs.Buffers.{Puts}

-- one piece, then another at the place past it
pub then : {before middle after x y : List ℕ} {at next past : ℕ}
    → Puts before at x middle next → Puts middle next y after past → Puts before at (x ++ y) after past
then {before} {middle} {after} {x} {y} {at} {next} {past} p q = record {
  placed = q.placed ∙ rw (p.placed, p.passed) (sym (sets-append x y before at));
  passed = rw length-append (omega (arith, p.passed, q.passed));
}

-- a piece that was put keeps the buffer's length
pub kept : {before text after : List ℕ} {at next : ℕ} → Puts before at text after next → length after ≡ length before
kept {before} {text} {at = at} p = ap length p.placed ∙ length-sets before at text
