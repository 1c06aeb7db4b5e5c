-- A tick by what its parts found: refused, with none due, or with a sheet served, it leaves what the definition says.
use Prim.Native.Nat.{ℕ, ◌≤◌, ◌<◌}
use mathlib.Core.Path.{◌≡◌, refl, sym, ap, ◌∙◌}
use mathlib.Core.Bool.{Bool, false, not, ◌&&◌}
use mathlib.Core.List.{List}
use Rattle.std.specs.Prelude.{Ok, Err}
use native.Mathlib.Omega.{arith}
use lib.Dec.{eqb, ltb}
use lib.ListN.{length}
use borrow.Author.Tests.{le-ltb}
use Rattle.sheet.specs.Outcomes.{Outcome, refusal, result, answer_of}
use Rattle.sheet.specs.Sheets.{Sheet}
use Rattle.sheet.specs.Laws.Lists.{never}
use Rattle.sheet.specs.Laws.Outcomes.{same-result}
use Rattle.sheet.specs.declared.Refused.{Refused}
use Rattle.kernel.specs.Answers.{InRounds}
use Rattle.board.specs.Boards.{frame_of, board_of}
use Rattle.board.specs.Marks.{marked, marks_of}
use Rattle.board.specs.Parts.{passed_of}
use Rattle.board.specs.Serving.{every_cell}
use Rattle.board.specs.Ticks.{Turn, TickCall, is_due, due_sheet, served_answer, serve, tick_call}
use Rattle.board.proofs.Laws.Boards.{FramePassed, frame-passed, board_read, passed-by}
use Rattle.board.proofs.Laws.Marks.{first-most, first-is}
use Rattle.board.proofs.Laws.Ticks.{Serves, tick_serves}
use Rattle.board.specs.declared.Standing.{Standing}
use Rattle.board.specs.declared.Ticked.{Ticked}
use Rattle.board.specs.declared.Ticked.TheVariants.{NoneDue}
use Rattle.board_check.specs.Found.{Between}
use Rattle.board_check.specs.declared.Span.{Span}
use Rattle.tick.specs.Ticking.{turn_of, Leaves, Parted, ServesPart}

-- What an answer tells of its outcome.
pub answered-refused : {A : Type 0} (o : Outcome A) {refused : Refused} → Err refused ≡ answer_of o → o ≡ refusal refused.why refused.place
answered-refused (refusal why place) e = cc
answered-refused (result a) e = never (cc)

pub answered_result : {A : Type 0} (o : Outcome A) {a : A} → Ok a ≡ answer_of o → o ≡ result a
answered_result (refusal why place) e = never (cc)
answered_result (result a) e = cc

-- A refusal of the frame is one of the checks.
pub frame_refused : (board memory input output : List ℕ) {refused : Refused} → frame_of board ≡ refusal refused.why refused.place
    → passed_of board memory input output ≡ refusal refused.why refused.place
unfolding passed_of board_of
frame_refused board memory input output e = rw e

module _ (board memory input output : List ℕ) (due restart : ℕ) (standing : Standing) where
  abbrev turn : Turn
  turn = turn_of memory input output due restart

  abbrev call : TickCall
  call = tick_call every_cell board turn standing

  pub leaves-refused : {refused : Refused} → passed_of board memory input output ≡ refusal refused.why refused.place
      → Leaves call (Err refused) standing memory output
  unfolding tick_call
  leaves-refused e = rw e (record { answers = refl; hands = refl; stores = refl; writes = refl })

  module _ {count : ℕ} (framed : frame_of board ≡ result count) where
    frame : FramePassed board count
    frame = frame-passed board count framed

    pub count-least : 1 ≤ count
    count-least = frame.least

    pub count_most : count ≤ 8
    count_most = frame.most

    module _ {k : ℕ} (first : k ≡ due_sheet count turn standing) where
      pub due_below : (k ≡ count → ⊥) → (k < count) × (k < 8)
      due_below other =
          let most = first-most count (is_due turn standing) standing.number (omega (arith, count-least)) in
          let below : k < count = omega (arith, first, most, other) in (below, omega (arith, below, count_most))

      module _ {sheets : List Sheet} (passes : passed_of board memory input output ≡ result sheets) where
        sheets_counted : length sheets ≡ count
        sheets_counted =
            let read = (passed-by board memory input output sheets passes).read in
            same-result (sym (board_read board sheets read).frame ∙ framed)

        pub leaves-idle : {marks : ℕ} → k ≡ count → marks ≡ marks_of (is_due turn standing) count
            → Leaves call (Ok NoneDue) (record { stored = marks; number = standing.number }) memory output
        unfolding tick_call
        leaves-idle none stored =
            let past : ltb (due_sheet count turn standing) count ≡ false = le-ltb (due_sheet count turn standing) count (omega (arith, first)) in
            rw (passes, sheets_counted, past)
            (record { answers = refl; hands = ap (λ s. record { stored = s; number = standing.number }) stored; stores = refl; writes = refl })

        module _ (other : k ≡ count → ⊥) {span : Span} (between : k < length sheets → Between board sheets k span) where
          pub is-sheet : k < length sheets
          is-sheet = omega (arith, sheets_counted, (due_below other).0)

          abbrev pub parted : Parted board memory input output span
          parted = record { sheets = sheets; number = k; passes = passes; is_sheet = is-sheet; between = between is-sheet }

          pub leaves-served : {ticked : Ticked} {marks : ℕ} {restarts : Bool} {answer : InRounds} {stored written : List ℕ} → restarts ≡ marked restart k
              → ServesPart parted restarts answer stored written → ticked ≡ served_answer k answer
              → marks ≡ marks_of (λ j. is_due turn standing j && not (eqb j k)) count
              → Leaves call (Ok ticked) (record { stored = marks; number = k }) stored written
          unfolding serve
          leaves-served {answer = answer} restarted part answers cleared =
              let served = rw restarted at part in
              let same : k ≡ due_sheet (length sheets) turn standing = first ∙ ap (λ n. due_sheet n turn standing) (sym sheets_counted) in
              let due-now = first-is (length sheets) (is_due turn standing) standing.number (omega (arith, same, is-sheet)) in
              let serves : Serves board turn standing sheets k =
              record { passes = passes; is_sheet = is-sheet; is_due_now = rw (← same) at due-now; first = same } in
              let whole = tick_serves every_cell board turn standing sheets k serves in
              rw (whole, sheets_counted)
              (record {
                answers = ap Ok (answers ∙ ap (served_answer k) served.answers);
                hands = ap (λ s. record { stored = s; number = k }) cleared;
                stores = served.stores;
                writes = served.writes;
              })
