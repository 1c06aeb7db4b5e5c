-- A served sheet: its own parts pass 12 to 16, also from its starting memory, so that its instant is accepted or refused with 20; what it leaves has the
-- lengths of its parts, and its memory passes 12 and 13 again.
use Rattle.std.specs.Prelude.{Ok, Err, ◌≡◌, refl, ◌⊎◌, ℕ, ◌*◌, ◌<◌, Bool, true, false, List}
use Rattle.sheet.specs.Outcomes.{refused_at, Outcome, refusal, result, followed_by, holds_after}
use Rattle.std.proofs.Common.{sym, ◌∙◌, inl, inr, eq-eqb}
use Rattle.std.proofs.Math.Path.{ap}
use Rattle.std.proofs.Math.ListN.{length, length-map}
use Rattle.sheet.specs.Sheets.{Sheet, sheet_forms, sheet_of}
use Rattle.sheet.specs.Memory.{memory_of, start_memory, start_outcome, start_call}
use Rattle.sheet.specs.Rows.{inputs_of}
use Rattle.sheet.specs.Laws.Lists.{never}
use Rattle.sheet.proofs.Laws.Memory.{memory_view, memory_back, row-length, start_memory_valid}
use Rattle.sheet.specs.Laws.Outcomes.{refused-parts, no_result, same-result}
use Rattle.sheet.proofs.Laws.Typing.{checked_well_typed}
use Rattle.sheet.specs.declared.Cell.{Cell}
use Rattle.sheet.specs.declared.Datum.{Datum}
use Rattle.sheet.specs.declared.Refusal.{Refusal}
use Rattle.sheet.specs.declared.Refusal.TheVariants.{StaysUnknown}
use Rattle.kernel.specs.Instants.{output_row}
use Rattle.kernel.specs.Calls.{Given, given_of, Accepted as Gives, in_rounds, InstantCall, rounds_answer, rounds_call}
use Rattle.kernel.proofs.Laws.Accepted.{memory_after_lem}
use Rattle.kernel.proofs.Laws.Answers.{RefusedBefore, demand2_answered}
use Rattle.kernel.proofs.Laws.Given.{by-given}
use Rattle.kernel.specs.Answers.{InRounds}
use Rattle.board.specs.Boards.{bytes_of}
use Rattle.board.specs.Parts.{sheet_at, memory_part, input_part, output_part}
use Rattle.board.specs.Marks.{marked}
use Rattle.board.specs.Serving.{Restart, every_cell, runs_from, stored_in, served_call}
use Rattle.board.specs.Ticks.{Turn, found_by, instant_of}
use Rattle.board.proofs.Laws.Boards.{board_read, PassedBy, passed-by}
use Rattle.board.proofs.Laws.Passing.{memory_part_lem, input-part, output_part_lem}

-- What a rule of restart must do: from a valid memory it makes a valid one.
pub record IsRestart (rule : Restart) : Type 0 where
  pub valid : (s own : List ℕ) (sheet : Sheet) (cells : List Cell) → sheet_of s ≡ result sheet → memory_of (sheet_forms sheet) own ≡ result cells
      → (fresh : List Cell) × (memory_of (sheet_forms sheet) (rule s own) ≡ result fresh)

pub every-cell : IsRestart every_cell
unfolding start_call start_outcome
every-cell =
    record {
      valid = λ s own sheet cells read held.
          let sized = (memory_view (sheet_forms sheet) own held).sized in (
            start_memory (sheet_forms sheet),
            rw (read, eq-eqb (length own) (5 * length (sheet_forms sheet)) sized)
                (memory_back (start_memory_valid sheet (checked_well_typed s sheet read))),
          );
    }

runs-from-valid : (rule : Restart) → IsRestart rule → (restarts : Bool) (s own : List ℕ) (sheet : Sheet) (cells : List Cell)
    → sheet_of s ≡ result sheet → memory_of (sheet_forms sheet) own ≡ result cells
    → (held : List Cell) × (memory_of (sheet_forms sheet) (runs_from rule restarts s own) ≡ result held)
runs-from-valid rule isRestart true s own sheet cells read held = isRestart.valid s own sheet cells read held
runs-from-valid rule isRestart false s own sheet cells read held = (cells, held)

-- What a refused instant leaves of the output row.
refused-row : (s memory input output : List ℕ) {why : Refusal} {place : ℕ} → (rounds_call s memory input output).answer ≡ refused_at why place
    → (rounds_call s memory input output).output ≡ output
unfolding rounds_call
refused-row s memory input output {why} {place} e = go (followed_by (given_of s memory input output) in_rounds) e
  where
    go : (o : Outcome Gives) → rounds_answer o ≡ refused_at why place → holds_after o (λ a. a.output) output ≡ output
    go (refusal found at) e = refl
    go (result a) e = never (cc)

-- what a sheet with these parts is served
pub record ServedWell (sheet : Sheet) (own output : List ℕ) (instant : InstantCall InRounds) : Type 0 where
  pub memory_size : length instant.memory ≡ 5 * length (sheet_forms sheet)
  pub output_size : length instant.output ≡ 4 * length sheet.outputs
  pub reads : (cells : List Cell) × (memory_of (sheet_forms sheet) instant.memory ≡ result cells)
  pub unknown : {why : Refusal} {place : ℕ} → instant.answer ≡ refused_at why place
      → (why ≡ StaysUnknown) × (instant.memory ≡ own) × (instant.output ≡ output)

-- a sheet with parts that pass
pub record Ready (s own from input output : List ℕ) (sheet : Sheet) : Type 0 where
  pub read : sheet_of s ≡ result sheet
  pub own_cells : (cells : List Cell) × (memory_of (sheet_forms sheet) own ≡ result cells)
  pub from_cells : (cells : List Cell) × (memory_of (sheet_forms sheet) from ≡ result cells)
  pub inputs : (inputs : List Datum) × (inputs_of sheet.input_types input ≡ result inputs)
  pub outputs : length output ≡ 4 * length sheet.outputs

module _ {s own from input output : List ℕ} {sheet : Sheet} (ready : Ready s own from input output sheet) where
  -- an instant is given them
  abbrev pub ready_given : Given
  ready_given = record { sheet = sheet; inputs = ready.inputs.0; memory = ready.from_cells.0 }

  pub ready-given : given_of s from input output ≡ result ready_given
  ready-given = by-given (record { sheet = ready.read; cells = ready.from_cells.1; inputs = ready.inputs.1; outputs = ready.outputs })

  -- so it is refused with 20, or accepted
  refused-only : {why : Refusal} {place : ℕ} → (rounds_call s from input output).answer ≡ refused_at why place → why ≡ StaysUnknown
  refused-only {why} {place} e = go ((demand2_answered s from input output).refused why place e)
    where
      go : (why ≡ StaysUnknown) ⊎ RefusedBefore s from input output why place → why ≡ StaysUnknown
      go (inl same) = same
      go (inr before) = no_result (sym before.refused ∙ ready-given)

  -- an accepted one leaves what passes again
  accepted_well : {rounds : ℕ} → (rounds_call s from input output).answer ≡ Ok rounds
      → ServedWell sheet own output (record {
        answer = Ok rounds;
        memory = (rounds_call s from input output).memory;
        output = (rounds_call s from input output).output;
      })
  unfolding output_row
  accepted_well {rounds} e =
      let solved = (demand2_answered s from input output).accepted rounds e in
      let left = memory_after_lem s from input output e in
      let same : solved.given.sheet ≡ sheet = ap (λ (g : Given). g.sheet) (same-result (sym solved.passes ∙ ready-given)) in
      let back : memory_of (sheet_forms sheet) (rounds_call s from input output).memory ≡ result left.cells = rw same at left.reads in
      record {
        memory_size = (memory_view (sheet_forms sheet) (rounds_call s from input output).memory back).sized;
        output_size = ap length solved.writes ∙ row-length (output_row solved.given.sheet solved.values)
            ∙ ap (λ (n : ℕ). 4 * n) (simp length-map (ap (λ (x : Sheet). length x.outputs) same));
        reads = (left.cells, back);
        unknown = λ f. never (cc);
      }

  pub served_well : ServedWell sheet own output (record {
    answer = (rounds_call s from input output).answer;
    memory = stored_in (rounds_call s from input output).answer (rounds_call s from input output).memory own;
    output = (rounds_call s from input output).output;
  })
  served_well = go (rounds_call s from input output).answer refl
    where
      go : (answer : InRounds) → (rounds_call s from input output).answer ≡ answer
          → ServedWell sheet own output (record {
            answer = answer;
            memory = stored_in answer (rounds_call s from input output).memory own;
            output = (rounds_call s from input output).output;
          })
      go (Err refused) e =
          let row = refused-row s from input output e in
          record {
            memory_size = (memory_view (sheet_forms sheet) own ready.own_cells.1).sized;
            output_size = rw row ready.outputs;
            reads = ready.own_cells;
            unknown = λ f. (sym (refused-parts f).0 ∙ refused-only e, refl, row);
          }
      go (Ok rounds) e = accepted_well e

-- A sheet of a board whose turn passes all checks.
module _ (rule : Restart) (isRestart : IsRestart rule) (board : List ℕ) (turn : Turn) (sheets : List Sheet)
    (passes : found_by board turn ≡ result sheets) (k : ℕ) (is_sheet : k < length sheets) where
  passed : PassedBy board turn.memory turn.input turn.output sheets
  passed = passed-by board turn.memory turn.input turn.output sheets passes

  -- the memory that it runs from
  abbrev pub starts_from : List ℕ
  starts_from = runs_from rule (marked turn.restart k) (bytes_of board k) (memory_part sheets k turn.memory)

  pub sheet-ready : Ready (bytes_of board k) (memory_part sheets k turn.memory) starts_from (input_part sheets k turn.input)
      (output_part sheets k turn.output) (sheet_at sheets k)
  sheet-ready =
      let read = (board_read board sheets passed.read).sheet k is_sheet in
      let held = memory_part_lem sheets k is_sheet turn.memory passed.cells.1 in
      record {
        read = read;
        own_cells = (_, held);
        from_cells = runs-from-valid rule isRestart (marked turn.restart k) (bytes_of board k) (memory_part sheets k turn.memory)
            (sheet_at sheets k) _ read held;
        inputs = (_, input-part sheets k is_sheet turn.input passed.inputs.1);
        outputs = output_part_lem sheets k is_sheet turn.output passed.outputs;
      }

  pub sheet-served : ServedWell (sheet_at sheets k) (memory_part sheets k turn.memory) (output_part sheets k turn.output)
      (instant_of rule board turn sheets k)
  unfolding served_call
  sheet-served = served_well sheet-ready
