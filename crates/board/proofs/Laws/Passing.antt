-- Where the whole memory and the whole rows pass 12 to 16, each sheet's own parts do: an instant of the sheet alone accepts them.
use Rattle.std.specs.Prelude.{◌≡◌, ℕ, ◌+◌, ◌*◌, ◌≤◌, ◌<◌, List, take}
use Rattle.std.proofs.Math.Path.{ap}
use Rattle.std.proofs.Common.{◌∙◌, arith}
use Rattle.std.proofs.Math.Bool.{not}
use Rattle.std.proofs.Math.ListN.{length, get_or}
use borrow.Author.Tests.{eq-eqb}
use Rattle.numbers.specs.Words.{word_at}
use Rattle.sheet.specs.Data.{boolean, number}
use Rattle.sheet.specs.Expressions.{fby_cell}
use Rattle.sheet.specs.Outcomes.{result}
use Rattle.sheet.specs.Sheets.{Sheet, sheet_forms}
use Rattle.sheet.specs.Memory.{mark_at, cell_word_at, invalid_at, cells_from, memory_of}
use Rattle.sheet.specs.Rows.{entry_at, wrong_at, data_from, inputs_of}
use Rattle.sheet.specs.Laws.Lowest.{none-lowest}
use Rattle.sheet.proofs.Laws.Memory.{memory_view}
use Rattle.sheet.specs.Laws.Outcomes.{length-passed, any-passed}
use Rattle.sheet.specs.declared.Cell.{Cell}
use Rattle.sheet.specs.declared.Datum.{Datum}
use Rattle.sheet.specs.declared.Refusal.TheVariants.{InputLength, InputContent}
use Rattle.board.specs.Parts.{joined, sheet_at, begin, size, memory_part, input_part, output_part, inputs_in, outputs_in}
use Rattle.board.proofs.Laws.Parts.{joined_at, joined-within, part-within, cut-length, cut_at, cut_word}

module _ (sheets : List Sheet) (k : ℕ) (is_sheet : k < length sheets) where
  -- a cell of the part passes its test where the cell of the whole does
  pub cell-part : (memory : List ℕ) → length memory ≡ 5 * length (joined sheet_forms sheets) → (i : ℕ) → i < length (sheet_forms (sheet_at sheets k))
      → invalid_at (sheet_forms (sheet_at sheets k)) (memory_part sheets k memory) i
      ≡ invalid_at (joined sheet_forms sheets) memory (length (joined sheet_forms (take k sheets)) + i)
  unfolding invalid_at
  cell-part memory sized i l =
      let first = length (joined sheet_forms (take k sheets)) in
      let from = begin 5 sheet_forms sheets k in
      let long = size 5 sheet_forms sheets k in
      let within : from + long ≤ length memory = part-within 5 sheet_forms sheets (length memory) sized k is_sheet in
      let mark : mark_at (memory_part sheets k memory) i ≡ mark_at memory (first + i) =
      cut_at from long memory within (5 * i) (omega arith) ∙ ap (λ (x : ℕ). get_or memory x 0) (omega arith) in
      let word : cell_word_at (memory_part sheets k memory) i ≡ cell_word_at memory (first + i) =
      cut_word from long memory within (5 * i + 1) (omega arith) ∙ ap (λ (x : ℕ). word_at memory x) (omega arith) in
      rw (mark, word, ← joined_at sheet_forms sheets k is_sheet i l (fby_cell boolean))

  pub memory_part_lem : (memory : List ℕ) {cells : List Cell} → memory_of (joined sheet_forms sheets) memory ≡ result cells
      → memory_of (sheet_forms (sheet_at sheets k)) (memory_part sheets k memory)
      ≡ result (cells_from (memory_part sheets k memory) 0 (sheet_forms (sheet_at sheets k)))
  unfolding memory_of invalid_at
  memory_part_lem memory e =
      let forms = sheet_forms (sheet_at sheets k) in
      let whole = memory_view (joined sheet_forms sheets) memory e in
      let within = part-within 5 sheet_forms sheets (length memory) whole.sized k is_sheet in
      let here = joined-within sheet_forms sheets k is_sheet in
      rw (
        eq-eqb (length (memory_part sheets k memory)) (5 * length forms) (cut-length _ _ memory within),
        none-lowest (invalid_at forms (memory_part sheets k memory)) (length forms)
            (λ i l. cell-part memory whole.sized i l ∙ ap not (whole.valid (length (joined sheet_forms (take k sheets)) + i) (omega arith))),
      )

  pub input-part : (input : List ℕ) {inputs : List Datum} → inputs_of (joined inputs_in sheets) input ≡ result inputs
      → inputs_of (sheet_at sheets k).input_types (input_part sheets k input)
      ≡ result (data_from (input_part sheets k input) 0 (sheet_at sheets k).input_types)
  unfolding inputs_of wrong_at
  input-part input e =
      let of = inputs_in in
      let types = (sheet_at sheets k).input_types in
      let (sized, e₁) = length-passed InputLength (length input) (4 * length (joined of sheets)) _ e in
      let (right, _) = any-passed InputContent (wrong_at (joined of sheets) input) (length (joined of sheets)) _ e₁ in
      let first = length (joined of (take k sheets)) in
      let within = part-within 4 of sheets (length input) sized k is_sheet in
      let here = joined-within of sheets k is_sheet in
      rw (
        eq-eqb (length (input_part sheets k input)) (4 * length types) (cut-length _ _ input within),
        none-lowest (wrong_at types (input_part sheets k input)) (length types)
            (λ i l.
            let word : entry_at (input_part sheets k input) i ≡ entry_at input (first + i) =
            cut_word _ _ input within (4 * i) (omega arith) ∙ ap (λ (x : ℕ). word_at input x) (omega arith) in
            rw (word, ← joined_at of sheets k is_sheet i l number) (right (first + i) (omega arith))),
      )

  pub output_part_lem : (output : List ℕ) → length output ≡ 4 * length (joined outputs_in sheets)
      → length (output_part sheets k output) ≡ 4 * length (sheet_at sheets k).outputs
  output_part_lem output sized =
      let of = outputs_in in
      cut-length (begin 4 of sheets k) (size 4 of sheets k) output (part-within 4 of sheets (length output) sized k is_sheet)
