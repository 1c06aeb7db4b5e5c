-- What a line that is given comes to, and what the code takes for the bytes that are played.
use Prim.Native.Nat.{ℕ, ◌≤◌, min}
use mathlib.Core.Path.{◌≡◌, refl, ap, sym, ◌∙◌}
use mathlib.Core.Bool.{Bool, true, false}
use mathlib.Core.List.{List, [], ◌∷◌, ◌++◌}
use native.Mathlib.Omega.{arith}
use lib.ListN.{length, take, drop}
use lib.Seq.{take_at, take_all, length-take-le}
use lib.Dec.{leb}
use borrow.Author.Tests.{leb-true, leb-false}
use Rattle.std.specs.Prelude.{Option, Some}
use Rattle.lines.specs.Buffers.{Holds}
use Rattle.play.specs.Text.{played}
use Rattle.play.specs.Stages.{lines_left, Between, Gives}
use Rattle.play.specs.declared.Stage.{Stage}
use Rattle.play.specs.declared.Stage.TheVariants.{Over}
use Rattle.play.specs.declared.Line.{Line}

-- a line that was put, before the lines that are left
pub gives : {bytes before line text memory : List ℕ} {left : List (List ℕ)} {size : ℕ} {stage : Stage}
    → Holds before line text size → Between bytes stage → left ≡ line ∷ lines_left bytes stage memory
    → Gives bytes left before (Some (record { size = size; stage = stage })) text memory
gives {bytes} {memory = memory} {stage = stage} put between e = record {
  lines = e ∙ ap (λ l. l ∷ lines_left bytes stage memory) (sym put.held);
  behind = put.behind;
  within = put.within;
  between = between;
}

-- the last line
pub final : {bytes before line text memory : List ℕ} {left : List (List ℕ)} {size : ℕ} {answer : Option Line}
    → answer ≡ Some (record { size = size; stage = Over }) → Holds before line text size → left ≡ line ∷ [] → Gives bytes left before answer text memory
final is put e = rw is (gives put tt e)

-- what a call leaves in the first bytes of a buffer that were lent to it
pub front : (n : ℕ) (whole part : List ℕ) → length part ≡ length (take n whole) → n ≤ length whole → take n (part ++ drop n whole) ≡ part
front n whole part kept room = take_at part (drop n whole) n (kept ∙ length-take-le n whole room)

-- the first bytes of the input that the code takes
pub own-bytes : (n : ℕ) (input : List ℕ) → n ≡ min (length input) 65536 → take n input ≡ played input
unfolding played
own-bytes n input is = go (leb 65536 (length input)) refl
  where
    go : (t : Bool) → leb 65536 (length input) ≡ t → take n input ≡ take 65536 input
    go true e = let same : n ≡ 65536 = omega (arith, leb-true 65536 (length input) e) in ap (λ k. take k input) same
    go false e =
        let short = leb-false 65536 (length input) e in
        take_all n input (omega arith) ∙ sym (take_all 65536 input (omega arith))

-- what is asked and given of them is asked and given of the input
module _ (bytes input : List ℕ) (same : bytes ≡ played input) {stage known : Stage} (is : stage ≡ known) where
  pub own-between : Between (played input) stage → Between bytes known
  own-between between = rw same (rw is at between)

  pub own-gives : (memory : List ℕ) {before text after : List ℕ} {answer : Option Line}
      → Gives bytes (lines_left bytes known memory) before answer text after
      → Gives (played input) (lines_left (played input) stage memory) before answer text after
  own-gives memory given = rw is (rw same at given)
