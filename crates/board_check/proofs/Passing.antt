-- What a sheet that the check passes adds to the tables: its cells' forms and its inputs' types.
use Prim.Native.Nat.{ℕ, ◌+◌, ◌≤◌}
use mathlib.Core.Path.{◌≡◌, sym, ap, ◌∙◌}
use mathlib.Core.List.{List, [], ◌∷◌, ◌++◌, map, map-append}
use native.Mathlib.Omega.{arith}
use lib.ListN.{length, take, length-map, length-append}
use lib.Seq.{take-length, paste, take-paste, length-paste}
use Rattle.sheet.specs.Data.{type_of_byte}
use Rattle.sheet.specs.Sheets.{Sheet, sheet_forms}
use Rattle.sheet.specs.Typing.{Pairwise}
use Rattle.sheet.proofs.Laws.Memory.{pairwise-length, pairwise_append}
use Rattle.buffers.specs.Tests.{Holds}
use Rattle.board.specs.Parts.{joined, inputs_in}
use Rattle.board.proofs.Laws.Parts.{joined-more}
use Rattle.board_check.specs.Steps.{Collected}

-- the parts of a sheet more are put behind the others
module _ (sheets : List Sheet) (sheet : Sheet) (forms types entries bytes : List ℕ) where
  pub collected_more : Collected sheets forms types → Pairwise Holds (sheet_forms sheet) entries
      → map type_of_byte bytes ≡ sheet.input_types → length (joined sheet_forms sheets) + length entries ≤ 512
      → length (joined inputs_in sheets) + length bytes ≤ 128
      → Collected (sheets ++ sheet ∷ []) (paste forms (length (joined sheet_forms sheets)) entries (length entries))
      (paste types (length (joined inputs_in sheets)) bytes (length bytes))
  collected_more c held typed room wide =
      let m = length entries in
      let size : length sheet.input_types ≡ length bytes = sym (ap length typed) ∙ length-map bytes type_of_byte in
      let k = length (joined sheet_forms sheets) in
      let n = length (joined inputs_in sheets) in
      let formed : k + m ≤ length forms = omega (arith, c.forms_sized) in
      let fits : n + length bytes ≤ length types = omega (arith, c.types-sized) in
      record {
        cells =
            rw (joined-more sheet_forms sheets sheet, length-append, pairwise-length held)
            (rw (take-paste forms k entries m (omega arith) (omega arith), take-length entries) (pairwise_append c.cells held));
        inputs =
            rw (joined-more inputs_in sheets sheet, length-append, size)
            (rw (take-paste types n bytes (length bytes) (omega arith) (omega arith), take-length bytes)
            (map-append type_of_byte (take n types) bytes ∙ rw (c.inputs, typed)));
        forms_sized = length-paste forms k entries m formed (omega arith) ∙ c.forms_sized;
        types-sized = length-paste types n bytes (length bytes) fits (omega arith) ∙ c.types-sized;
      }
