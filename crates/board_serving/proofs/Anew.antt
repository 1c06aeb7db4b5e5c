-- A restarted sheet: what the start leaves goes by the sheet alone, and the instant that runs from it leaves what `served_call` says.
use Rattle.std.specs.Prelude.{Ok, Err}
use Prim.Native.Nat.{ℕ, ◌*◌, ◌≤◌}
use mathlib.Core.Path.{◌≡◌, refl, sym, ap, ◌∙◌}
use mathlib.Core.Bool.{true, false}
use mathlib.Core.List.{List}
use native.Mathlib.Omega.{arith}
use lib.ListN.{length}
use borrow.Author.Tests.{eq-eqb}
use Rattle.sheet.specs.Outcomes.{Outcome, refusal, result, followed_by, holds_after}
use Rattle.sheet.specs.Memory.{start_outcome, start_call}
use Rattle.sheet.specs.Sheets.{sheet_forms}
use Rattle.sheet.proofs.Laws.Typing.{passed_check}
use Rattle.sheet.specs.declared.Refused.{Refused}
use Rattle.kernel.specs.Calls.{given_of, Accepted as Gives, in_rounds, rounds_answer, rounds_call, Leaves}
use Rattle.kernel.specs.Answers.{InRounds}
use Rattle.board.specs.Serving.{every_cell, stored_in, served_call}
use Rattle.board_serving.specs.Fitting.{Fits}

-- a sheet has at most 64 cells
pub part-few : {s own : List ℕ} → Fits s own → length own ≤ 320
part-few {s} fits = let p = passed_check s fits.read in omega (arith, fits.sized, p.counted, p.few-cells)

-- whatever a memory of the right length held
pub start-same : {s own : List ℕ} → Fits s own → (fresh : List ℕ) → length fresh ≡ length own → (start_call s fresh).memory ≡ every_cell s own
unfolding start_call start_outcome
start-same {own = own} fits fresh sized =
    let must = 5 * length (sheet_forms fits.sheet) in
    rw (fits.read, eq-eqb (length fresh) must (sized ∙ fits.sized), eq-eqb (length own) must fits.sized)

module _ {s own : List ℕ} (fits : Fits s own) (fresh input output : List ℕ) {started next row : List ℕ} (sized : length fresh ≡ length own)
    (starts : started ≡ (start_call s fresh).memory) {answer : InRounds}
    (leaves : Leaves (rounds_call s started input output) answer next row) where
  from_start : started ≡ every_cell s own
  from_start = starts ∙ start-same fits fresh sized

  -- refused, the part is as it was
  pub anew-refused : {r : Refused} → answer ≡ Err r
      → Leaves (served_call every_cell true s own input output) (Err r) own row
  unfolding served_call
  anew-refused e =
      let is : (rounds_call s (every_cell s own) input output).answer ≡ Err _ = sym (rw from_start at leaves.answers) ∙ e in
      record {
        answers = sym is;
        stores = sym (ap (λ x. stored_in x (rounds_call s (every_cell s own) input output).memory own) is);
        writes = rw from_start at leaves.writes;
      }

  -- accepted, it gets what the instant stored
  pub anew-accepted : {rounds : ℕ} → answer ≡ Ok rounds → {copied : List ℕ} → copied ≡ next
      → Leaves (served_call every_cell true s own input output) (Ok rounds) copied row
  unfolding served_call
  anew-accepted e copies =
      let is : (rounds_call s (every_cell s own) input output).answer ≡ Ok _ = sym (rw from_start at leaves.answers) ∙ e in
      record {
        answers = sym is;
        stores = copies ∙ rw from_start at leaves.stores
            ∙ sym (ap (λ x. stored_in x (rounds_call s (every_cell s own) input output).memory own) is);
        writes = rw from_start at leaves.writes;
      }

-- a sheet that is not restarted has its instant on the part itself: refused, that leaves it as it was
pub as_instant : (s own input output : List ℕ) {next row : List ℕ} {answer : InRounds} → Leaves (rounds_call s own input output) answer next row
    → Leaves (served_call every_cell false s own input output) answer next row
unfolding served_call rounds_call
as_instant s own input output leaves =
    record {
      answers = leaves.answers;
      stores = leaves.stores ∙ kept (followed_by (given_of s own input output) in_rounds);
      writes = leaves.writes;
    }
  where
    kept : (o : Outcome Gives) → holds_after o (λ a. a.memory) own ≡ stored_in (rounds_answer o) (holds_after o (λ a. a.memory) own) own
    kept (refusal why place) = refl
    kept (result a) = refl
