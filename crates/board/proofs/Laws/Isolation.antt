-- Isolation: what a sheet of a board gives goes by the board, the marks, the number and its own parts, and by nothing else.
use Rattle.std.specs.Prelude.{Ok, Err, ◌≡◌, Bool, List, ltb, length}
use Rattle.std.proofs.Math.Path.{refl, sym, ap}
use Rattle.std.proofs.Common.{◌∙◌}
use Prim.Native.Nat.{ℕ, ◌<◌}
use Rattle.std.proofs.Math.Bool.{true, false}
use Rattle.std.proofs.Math.Dec.{eqb}
use borrow.Author.Tests.{eqb-true, eqb-false, ltb-true}
use Rattle.sheet.specs.Outcomes.{result}
use Rattle.sheet.specs.Sheets.{Sheet}
use Rattle.sheet.specs.Laws.Lists.{never}
use Rattle.kernel.specs.Calls.{InstantCall}
use Rattle.kernel.specs.Answers.{InRounds}
use Rattle.board.specs.Parts.{memory_part, output_part}
use Rattle.board.specs.Serving.{Restart}
use Rattle.board.specs.Ticks.{Turn, found_by, is_due, due_sheet, served_answer, instant_of, serve, tick_call}
use Rattle.board.specs.Runs.{serves}
use Rattle.board.specs.Isolation.{AlikeFor, SameFor}
use Rattle.board.specs.declared.Standing.{Standing}
use Rattle.board.proofs.Laws.Boards.{passed-by, same_sheets}
use Rattle.board.proofs.Laws.Marks.{first-is}
use Rattle.board.proofs.Laws.Serving.{IsRestart}
use Rattle.board.proofs.Laws.Ticks.{Serves, tick_serves, tick_by, others-kept}

-- whether sheet j is the served one goes by its number alone
serves-number : (j k : ℕ) (instant : InRounds) → serves j (Ok (served_answer k instant)) ≡ eqb k j
serves-number j k (Err refused) = refl
serves-number j k (Ok rounds) = refl

module _ (rule : Restart) (isRestart : IsRestart rule) (board : List ℕ) (one other : Turn) (standing : Standing) (sheets found : List Sheet)
    (passes : found_by board one ≡ result sheets) (valid : found_by board other ≡ result found)
    (k : ℕ) (is_sheet : k < length sheets) (alike : AlikeFor sheets k one other) where
  -- the other turn finds the same sheets
  other-passes : found_by board other ≡ result sheets
  other-passes =
      let read = (passed-by board one.memory one.input one.output sheets passes).read in
      rw (same_sheets board other.memory other.input other.output sheets found read valid) at valid

  -- and serves the same one
  serves-same : (j : ℕ) → Serves board one standing sheets j → Serves board other standing sheets j
  serves-same j s =
      record { passes = other-passes; is_sheet = s.is_sheet; is_due_now = rw alike.due s.is_due_now; first = rw alike.due s.first }

  -- by the same instant, where it is sheet k
  instant_same : instant_of rule board other sheets k ≡ instant_of rule board one sheets k
  instant_same = rw (alike.restart, alike.memory, alike.input, alike.output)

  served-alike : (j : ℕ) → Serves board one standing sheets j → SameFor sheets k (tick_call rule board one standing) (tick_call rule board other standing)
  unfolding serve
  served-alike j s =
      let first = tick_serves rule board one standing sheets j s in
      let second = tick_serves rule board other standing sheets j (serves-same j s) in
      let by = serves-number k j (instant_of rule board one sheets j).answer in
      let otherBy = serves-number k j (instant_of rule board other sheets j).answer in
      let (memory, output, answer) = parts (eqb k j) refl in
      record {
        standing = rw (first, second, alike.due);
        memory = memory;
        output = output;
        served = rw (first, second) (otherBy ∙ sym by);
        answer = λ q. answer (eqb-true j k (sym by ∙ rw first at q));
      }
    where
      parts : (t : Bool) → eqb k j ≡ t
          → (memory_part sheets k (tick_call rule board other standing).memory ≡ memory_part sheets k (tick_call rule board one standing).memory)
          × (output_part sheets k (tick_call rule board other standing).output ≡ output_part sheets k (tick_call rule board one standing).output)
          × (j ≡ k → (tick_call rule board other standing).answer ≡ (tick_call rule board one standing).answer)
      parts true e =
          let same : j ≡ k = sym (eqb-true k j e) in
          let a = tick_by rule board one standing isRestart sheets k (rw same at s) in
          let b = tick_by rule board other standing isRestart sheets k (serves-same k (rw same at s)) in (
            b.memory ∙ ap (λ (x : InstantCall InRounds). x.memory) instant_same ∙ sym a.memory,
            b.output ∙ ap (λ (x : InstantCall InRounds). x.output) instant_same ∙ sym a.output,
            λ _. b.answer ∙ ap (λ (x : InstantCall InRounds). Ok (served_answer k x.answer)) instant_same ∙ sym a.answer,
          )
      parts false e =
          let apart = eqb-false k j e in
          let (m₁, o₁) = others-kept rule board one standing isRestart sheets j s k is_sheet apart in
          let (m₂, o₂) = others-kept rule board other standing isRestart sheets j (serves-same j s) k is_sheet apart in (
            m₂ ∙ alike.memory ∙ sym m₁,
            o₂ ∙ alike.output ∙ sym o₁,
            λ same. absurd (apart (sym same)),
          )

  -- With the same board, marks and number, whatever else of memory and inputs is changed, if only it still passes: sheet k is served or not as before,
  -- with the same answer, the same outputs and the same next memory.
  pub isolation : SameFor sheets k (tick_call rule board one standing) (tick_call rule board other standing)
  unfolding tick_call
  isolation = go (ltb n (length sheets)) refl
    where
      n : ℕ
      n = due_sheet (length sheets) one standing

      go : (t : Bool) → ltb n (length sheets) ≡ t → SameFor sheets k (tick_call rule board one standing) (tick_call rule board other standing)
      go true e =
          let below = ltb-true n (length sheets) e in
          served-alike n (record {
            passes = passes;
            is_sheet = below;
            is_due_now = first-is (length sheets) (is_due one standing) standing.number below;
            first = refl;
          })
      go false e =
          rw (passes, other-passes, alike.due, e)
          (record { standing = refl; memory = alike.memory; output = alike.output; served = refl; answer = λ q. never (cc) })
