-- The lines of the instants: the bytes not used where none is due, else the next one, with the progress after it.
use Rattle.std.specs.Prelude.{Ok}
use Rattle.sheet.specs.Outcomes.{refused_at, number_of}
use Prim.Native.Nat.{ℕ, zero, suc, ◌+◌, ◌-◌, ◌*◌, ◌≤◌, ◌<◌}
use mathlib.Core.Path.{◌≡◌, refl, ap, sym, ◌∙◌}
use mathlib.Core.List.{List, [], ◌∷◌, ◌++◌}
use native.Mathlib.Omega.{arith}
use native.Mathlib.Nat.{suc-mul}
use lib.ListN.{length, take, drop, length-drop}
use lib.Seq.{drop-drop}
use Rattle.sheet.specs.declared.Refusal.{Refusal}
use Rattle.kernel.specs.Calls.{InstantCall, rounds_call, Leaves}
use Rattle.kernel.specs.Answers.{InRounds}
use Rattle.lines.specs.Buffers.{Holds}
use Rattle.text.specs.Pieces.{numbers_of}
use Rattle.lines.specs.Lines.{refused_line, left_line, row_line}
use Rattle.play.specs.Text.{length_at, sheet_in, zeros, instant_of, instant_text, instants_text}
use Rattle.play.specs.Stages.{next_instant, lines_left, Ready, Gives}
use Rattle.play.specs.declared.Progress.{Progress}
use Rattle.play.specs.declared.Stage.TheVariants.{Playing}
use Rattle.std.specs.Prelude.{Some}
use Rattle.play.proofs.Giving.{gives, front}
use Rattle.play.proofs.Sheet.{own-sheet}

take-zeros : (n m : ℕ) → n ≤ m → take n (zeros m) ≡ zeros n
take-zeros zero m h = refl
take-zeros (suc n) zero h = absurd (omega arith)
take-zeros (suc n) (suc m) h = ap (λ l. 0 ∷ l) (take-zeros n m (omega arith))

-- one of the rows that are due
due-row : (due size : ℕ) → 0 < due → due * size ≡ size + (due - 1) * size
due-row zero size h = absurd (omega arith)
due-row (suc due) size h = let e : suc due - 1 ≡ due = omega arith in rw (e, suc-mul due size) (omega arith)

-- one of the instants that are due
due-text : (s : List ℕ) (input output due turn : ℕ) (memory rows : List ℕ) → 0 < due
    → let call = instant_of s input output memory rows in
    instants_text s input output due turn memory rows
    ≡ instant_text call.answer (row_line turn (numbers_of call.output))
    (instants_text s input output (due - 1) (turn + 1) call.memory (drop input rows))
unfolding instants_text
due-text s input output zero turn memory rows h = absurd (omega arith)
due-text s input output (suc due) turn memory rows h = let e : suc due - 1 ≡ due = omega arith in rw e

-- no instant is due: the bytes not used
pub left-text : (bytes : List ℕ) (p : Progress) (memory : List ℕ) → p.due ≡ 0
    → lines_left bytes (Playing p) memory ≡ left_line (length bytes - p.at) ∷ []
unfolding instants_text
left-text bytes p memory none = rw (none, length-drop p.at bytes)

-- An instant that is due.
module _ (bytes : List ℕ) (p : Progress) (ready : Ready bytes p) (some : 0 < p.due) where
  pub row_fits : p.at + p.input ≤ length bytes
  row_fits = omega (arith, ready.rows, due-row p.due p.input some)

  next-ready : Ready bytes (next_instant p)
  next-ready =
      let one = due-row p.due p.input some in
      record {
        sheet = ready.sheet;
        rows = omega (arith, ready.rows);
        turns = omega (arith, ready.turns);
        memory = ready.memory;
        output = ready.output;
      }

  module _ (memory : List ℕ) {n : ℕ} (is : n ≡ length_at bytes) where
    -- its call, and that which the code makes
    abbrev due-call : InstantCall InRounds
    due-call = instant_of (sheet_in bytes) p.input p.output (take p.memory memory) (drop p.at bytes)

    abbrev code_call : InstantCall InRounds
    code_call =
        rounds_call (take (2 + n - 2) (drop 2 bytes)) (take p.memory memory)
        (take (p.at + p.input - p.at) (drop p.at bytes)) (take p.output (zeros 64))

    same-call : code_call ≡ due-call
    same-call =
        let row : p.at + p.input - p.at ≡ p.input = omega arith in
        rw (own-sheet bytes is, row, take-zeros p.output 64 ready.output)

    instant_text_lem : lines_left bytes (Playing p) memory
        ≡ instant_text due-call.answer (row_line p.turn (numbers_of due-call.output))
        (instants_text (sheet_in bytes) p.input p.output (p.due - 1) (p.turn + 1) due-call.memory
        (drop p.input (drop p.at bytes)))
    instant_text_lem =
        due-text (sheet_in bytes) p.input p.output p.due p.turn (take p.memory memory) (drop p.at bytes) some

    module _ {answer : InRounds} {stored written : List ℕ} (left : Leaves code_call answer stored written) where
      own : Leaves due-call answer stored written
      own = rw same-call at left

      pub refused-text : {why : Refusal} {place : ℕ} → answer ≡ refused_at why place
          → lines_left bytes (Playing p) memory ≡ refused_line (number_of why) place ∷ []
      refused-text e = instant_text_lem ∙ rw (sym own.answers ∙ e)

      pub accepted-line : {rounds size : ℕ} {next : Progress} {before text : List ℕ} → answer ≡ Ok rounds → 320 ≤ length memory
          → length stored ≡ length (take p.memory memory) → length written ≡ length (take p.output (zeros 64))
          → next ≡ next_instant p
          → Holds before (row_line p.turn (numbers_of (take p.output (written ++ drop p.output (zeros 64))))) text size
          → Gives bytes (lines_left bytes (Playing p) memory) before (Some (record { size = size; stage = Playing next })) text (stored ++ drop p.memory memory)
      accepted-line e room kept kept-output is-next put =
          let cells = front p.memory memory stored kept (omega (arith, ready.memory)) in
          let outputs = front p.output (zeros 64) written kept-output ready.output in
          rw is-next
          (gives (rw (outputs, own.writes) at put) next-ready
          (instant_text_lem ∙ rw (sym own.answers ∙ e, cells, own.stores, drop-drop p.input p.at bytes)))
