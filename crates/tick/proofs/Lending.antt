-- The parts of a sheet, by the places between which they stand: they lie in their buffers, and are the parts of the definition.
use Prim.Native.Nat.{ℕ, suc, ◌+◌, ◌-◌, ◌*◌, ◌≤◌, ◌<◌}
use mathlib.Core.Path.{◌≡◌, ap, ◌∙◌}
use mathlib.Core.Bool.{Bool}
use mathlib.Core.List.{List, ◌++◌}
use native.Mathlib.Omega.{arith}
use lib.ListN.{length, take, drop}
use lib.Seq.{drop-drop}
use Rattle.sheet.specs.Sheets.{Sheet, sheet_forms}
use Rattle.sheet.proofs.Laws.Memory.{memory_view}
use Rattle.sheet.specs.Laws.Outcomes.{length-passed}
use Rattle.sheet.specs.Rows.{inputs_of}
use Rattle.sheet.specs.declared.Refusal.TheVariants.{InputLength}
use Rattle.kernel.specs.Calls.{Leaves}
use Rattle.kernel.specs.Answers.{InRounds}
use Rattle.board.specs.Boards.{length_at, length_place, bytes_of}
use Rattle.board.specs.Parts.{joined, sheet_at, inputs_in, outputs_in, begin, size, cut, put, part, with_part, memory_part}
use Rattle.board.specs.Serving.{every_cell, served_call}
use Rattle.board.proofs.Laws.Boards.{BoardRead, board_read, PassedBy, passed-by}
use Rattle.board.proofs.Laws.Parts.{part-within, joined-next}
use Rattle.board.proofs.Laws.Passing.{memory_part_lem}
use Rattle.board_check.specs.declared.Begin.{Begin}
use Rattle.board_check.specs.declared.Span.{Span}
use Rattle.board_serving.specs.Fitting.{Fits}
use Rattle.tick.specs.Ticking.{Parted, ServesPart}

-- one place is not behind another, and that is not behind the end of the bytes
abbrev pub LiesIn : List ℕ → (from to : ℕ) → Type 0
LiesIn bytes from to = (from ≤ to) × (to ≤ length bytes)

-- a buffer that has as many bytes as the sheets ask, and the places between which the part of sheet k stands
record Placed {A : Type 0} (bytes : ℕ) (of : Sheet → List A) (sheets : List Sheet) (k from to : ℕ) (buffer : List ℕ) : Type 0 where
  is_sheet : k < length sheets
  begins : from ≡ length (joined of (take k sheets))
  ends : to ≡ length (joined of (take (suc k) sheets))
  whole : length buffer ≡ bytes * length (joined of sheets)

module _ {A : Type 0} {bytes : ℕ} {of : Sheet → List A} {sheets : List Sheet} {k from to : ℕ} {buffer : List ℕ}
    (placed : Placed bytes of sheets k from to buffer) where
  place-from : bytes * from ≡ begin bytes of sheets k
  place-from = ap (λ (n : ℕ). bytes * n) placed.begins

  place-to : bytes * to ≡ begin bytes of sheets k + size bytes of sheets k
  place-to = ap (λ (n : ℕ). bytes * n) (placed.ends ∙ joined-next of sheets k placed.is_sheet) ∙ (omega arith)

  lies_in : LiesIn buffer (bytes * from) (bytes * to)
  lies_in = (
    omega (arith, place-from, place-to),
    omega (arith, place-to, part-within bytes of sheets (length buffer) placed.whole k placed.is_sheet),
  )

  long-is : bytes * to - bytes * from ≡ size bytes of sheets k
  long-is = omega (arith, place-from, place-to)

  -- there stands the part
  part-is : take (bytes * to - bytes * from) (drop (bytes * from) buffer) ≡ part bytes of sheets k buffer
  unfolding cut
  part-is = rw (long-is, place-from)

  -- and what is put there is put into the part
  put_is : {new kept : List ℕ} → kept ≡ new
      → take (bytes * from) buffer ++ (kept ++ drop (bytes * to - bytes * from) (drop (bytes * from) buffer)) ≡ with_part bytes of sheets k new buffer
  unfolding put
  put_is e = rw (e, long-is, place-from, drop-drop)

module _ {board memory input output : List ℕ} {span : Span} (p : Parted board memory input output span) where
  abbrev from : Begin
  from = span.from

  abbrev to : Begin
  to = span.to

  passed : PassedBy board memory input output p.sheets
  passed = passed-by board memory input output p.sheets p.passes

  read : BoardRead board p.sheets
  read = board_read board p.sheets passed.read

  -- where the sheet's length stands, and that of the next
  first : from.at ≡ length_place board p.number
  first = ap (λ (x : Begin). x.at) p.between.begins

  last : to.at ≡ length_place board (suc p.number)
  last = ap (λ (x : Begin). x.at) p.between.ends

  cells-placed : Placed 5 sheet_forms p.sheets p.number from.cells to.cells memory
  cells-placed =
      record {
        is_sheet = p.is_sheet;
        begins = ap (λ (x : Begin). x.cells) p.between.begins;
        ends = ap (λ (x : Begin). x.cells) p.between.ends;
        whole = (memory_view (joined sheet_forms p.sheets) memory passed.cells.1).sized;
      }

  inputs-placed : Placed 4 inputs_in p.sheets p.number from.inputs to.inputs input
  unfolding inputs_of
  inputs-placed =
      record {
        is_sheet = p.is_sheet;
        begins = ap (λ (x : Begin). x.inputs) p.between.begins;
        ends = ap (λ (x : Begin). x.inputs) p.between.ends;
        whole = (length-passed InputLength (length input) (4 * length (joined inputs_in p.sheets)) _ passed.inputs.1).0;
      }

  outputs-placed : Placed 4 outputs_in p.sheets p.number from.outputs to.outputs output
  outputs-placed =
      record {
        is_sheet = p.is_sheet;
        begins = ap (λ (x : Begin). x.outputs) p.between.begins;
        ends = ap (λ (x : Begin). x.outputs) p.between.ends;
        whole = passed.outputs;
      }

  -- what is lent lies in the board and its buffers
  pub record Lent : Type 0 where
    pub sheet : LiesIn board (from.at + 2) to.at
    pub cells : LiesIn memory (5 * from.cells) (5 * to.cells)
    pub inputs : LiesIn input (4 * from.inputs) (4 * to.inputs)
    pub outputs : LiesIn output (4 * from.outputs) (4 * to.outputs)

  pub lent : Lent
  unfolding length_place
  lent =
      record {
        sheet = (omega (arith, first, last), omega (arith, last, read.passed.within (suc p.number) (omega (arith, p.is_sheet))));
        cells = lies_in cells-placed;
        inputs = lies_in inputs-placed;
        outputs = lies_in outputs-placed;
      }

  -- the bytes of the sheet
  sheet-is : take (to.at - (from.at + 2)) (drop (from.at + 2) board) ≡ bytes_of board p.number
  unfolding length_place
  sheet-is =
      let long : to.at - (from.at + 2) ≡ length_at board (length_place board p.number) = rw (last, first) (omega arith) in
      rw (long, first)

  -- it passes the check, and its part has the length of its memory
  pub lent_fits : Fits (take (to.at - (from.at + 2)) (drop (from.at + 2) board))
      (take (5 * to.cells - 5 * from.cells) (drop (5 * from.cells) memory))
  lent_fits =
      let here = memory_part_lem p.sheets p.number p.is_sheet memory passed.cells.1 in
      rw (sheet-is, part-is cells-placed)
      (record {
        sheet = sheet_at p.sheets p.number;
        read = read.sheet p.number p.is_sheet;
        sized = (memory_view (sheet_forms (sheet_at p.sheets p.number)) (memory_part p.sheets p.number memory) here).sized;
      })

  -- the instant of what is lent is that of the sheet, and what it leaves stands in the sheet's parts
  pub served-part : (restarts : Bool) {answer : InRounds} {stored written : List ℕ}
      → Leaves (served_call every_cell restarts (take (to.at - (from.at + 2)) (drop (from.at + 2) board))
      (take (5 * to.cells - 5 * from.cells) (drop (5 * from.cells) memory))
      (take (4 * to.inputs - 4 * from.inputs) (drop (4 * from.inputs) input))
      (take (4 * to.outputs - 4 * from.outputs) (drop (4 * from.outputs) output))) answer stored written
      → ServesPart p restarts answer
      (take (5 * from.cells) memory ++ (stored ++ drop (5 * to.cells - 5 * from.cells) (drop (5 * from.cells) memory)))
      (take (4 * from.outputs) output ++ (written ++ drop (4 * to.outputs - 4 * from.outputs) (drop (4 * from.outputs) output)))
  served-part restarts leaves =
      let same = rw (sheet-is, part-is cells-placed, part-is inputs-placed, part-is outputs-placed) at leaves in
      record {
        answers = same.answers;
        stores = put_is cells-placed same.stores;
        writes = put_is outputs-placed same.writes;
      }
