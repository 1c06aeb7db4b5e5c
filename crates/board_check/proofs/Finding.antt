-- What the walk over the sheets and then the tests of the whole memory and rows come to.
use Prim.Native.Nat.{ℕ, ◌*◌, ◌<◌}
use mathlib.Core.Path.{◌≡◌, refl, ap, ◌∙◌}
use mathlib.Core.Bool.{Bool, true, false, cond}
use mathlib.Core.List.{List, map}
use Rattle.std.specs.Prelude.{Ok, Err}
use lib.Dec.{eqb}
use lib.ListN.{length, take}
use Rattle.sheet.specs.Data.{type_of_byte}
use Rattle.sheet.specs.Outcomes.{refused_at, done_of, Outcome, refusal, result, followed_by}
use Rattle.sheet.specs.Sheets.{Sheet, sheet_forms}
use Rattle.sheet.specs.Memory.{memory_of}
use Rattle.sheet.specs.Rows.{inputs_of}
use Rattle.sheet.specs.declared.Cell.{Cell}
use Rattle.sheet.specs.declared.Datum.{Datum}
use Rattle.sheet.specs.declared.Refusal.{Refusal}
use Rattle.sheet.specs.declared.Refused.{Refused}
use Rattle.sheet.specs.declared.Refusal.TheVariants.{OutputLength}
use Rattle.buffers.specs.Laws.{held_forms}
use Rattle.std.specs.Prelude.{Ok, Err}
use Rattle.buffers.specs.Tests.{Tested, and_tested, buffers_tested, Formed}
use Rattle.board.specs.Boards.{length_place, frame_of, sheets_from, board_of}
use Rattle.board.specs.Parts.{joined, inputs_in, outputs_in, passed_of}
use Rattle.board_check.specs.Found.{behind, Between, Finds, refuses, finds}
use Rattle.board_check.specs.Steps.{Collected, Fits, Walks, refuses as stays, passes}
use Rattle.board_check.specs.declared.Begin.{Begin}
use Rattle.board_check.specs.declared.Walked.{Walked}

-- what the answer of the walk tells
pub record Through (board : List ℕ) (wanted : ℕ) (walked : Walked) (forms types : List ℕ) (o : Outcome (List Sheet)) : Type 0 where
  pub sheets : List Sheet
  pub outcome : o ≡ result sheets
  pub located : wanted < length sheets → Between board sheets wanted walked.span
  pub place : walked.end ≡ behind (length_place board (length sheets)) sheets
  pub fits : Fits walked.end
  pub collected : Collected sheets forms types

module _ {board : List ℕ} {wanted : ℕ} {forms types : List ℕ} where
  pub walk_refused : {o : Outcome (List Sheet)} {refused : Refused} → Walks board wanted forms types o (Err refused) → o ≡ refusal refused.why refused.place
  walk_refused stays = refl

  pub walk_through : {o : Outcome (List Sheet)} {walked : Walked} → Walks board wanted forms types o (Ok walked) → Through board wanted walked forms types o
  walk_through (passes {sheets} located place fits collected) =
      record { sheets = sheets; outcome = refl; located = located; place = place; fits = fits; collected = collected }

  -- the entries of all cells hold their forms
  pub all_formed : {o : Outcome (List Sheet)} {walked : Walked} (p : Through board wanted walked forms types o)
      → Formed (joined sheet_forms p.sheets) forms walked.end.cells
  all_formed p = rw (ap (λ (b : Begin). b.cells) p.place) (held_forms refl p.collected.cells)

-- the outcome by the tests of the buffers, once 1 to 11 are passed
abbrev by_tests : List Sheet → Tested → Outcome (List Sheet)
by_tests sheets (Err r) = refusal r.why r.place
by_tests sheets (Ok passed) = result sheets

module _ (board memory input output : List ℕ) {n : ℕ} (frame : frame_of board ≡ result n) (wanted : ℕ) where
  abbrev whole : Outcome (List Sheet)
  whole = passed_of board memory input output

  pub finds-refusal : {refused : Refused} → sheets_from board n 0 ≡ refusal refused.why refused.place
      → Finds board wanted whole (Err refused)
  unfolding passed_of board_of
  finds-refusal e = rw (frame, e) refuses

  module _ {walked : Walked} {forms types : List ℕ} (p : Through board wanted walked forms types (sheets_from board n 0)) where
    abbrev tests : Tested
    tests = buffers_tested (joined sheet_forms p.sheets) (map type_of_byte (take walked.end.inputs types)) walked.end.outputs memory input output

    by_tests_lem : whole ≡ by_tests p.sheets tests
    unfolding passed_of board_of
    by_tests_lem =
        rw (frame, p.outcome, ap (λ (b : Begin). b.inputs) p.place, ap (λ (b : Begin). b.outputs) p.place, p.collected.inputs)
        (go (memory_of (joined sheet_forms p.sheets) memory) (inputs_of (joined inputs_in p.sheets) input)
        (eqb (length output) (4 * length (joined outputs_in p.sheets))))
      where
        go : (m : Outcome (List Cell)) (i : Outcome (List Datum)) (t : Bool)
            → followed_by m (λ cells. followed_by i (λ inputs. cond t (result p.sheets) (refusal OutputLength 0)))
            ≡ by_tests p.sheets (and_tested (done_of m) (and_tested (done_of i) (cond t (Ok tt) (refused_at OutputLength 0))))
        go (refusal w q) i t = refl
        go (result c) (refusal w q) t = refl
        go (result c) (result d) true = refl
        go (result c) (result d) false = refl

    pub finds_unfit : {why : Refusal} {place : ℕ} → tests ≡ refused_at why place → Finds board wanted whole (refused_at why place)
    finds_unfit e = rw (by_tests_lem ∙ ap (by_tests p.sheets) e) refuses

    pub finds-all : {u : Unit {0}} → tests ≡ Ok u → Finds board wanted whole (Ok walked.span)
    finds-all e = rw (by_tests_lem ∙ ap (by_tests p.sheets) e) (finds p.located)
