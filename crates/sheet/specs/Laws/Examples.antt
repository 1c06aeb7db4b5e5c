-- The example sheets' bytes say what they should, and those that misuse kept wires or machines are refused.
use Rattle.std.specs.Prelude.{◌≡◌, refl, [], ◌∷◌, map}
use Rattle.sheet.specs.Kinds.{meaning_of, operands_of}
use Rattle.sheet.specs.Outcomes.{result, packed_refusal}
use Rattle.sheet.specs.Readings.{read_each, names_of, body_from, own_of, read_expression}
use Rattle.sheet.specs.Headers.{field_of, bytes_of, section_of}
use Rattle.sheet.specs.Sheets.{kept_count, read_wires, outputs_from, wires_from, read_sheet, sheet_of, check_of, packed_checked}
use Rattle.sheet.specs.declared.Refusal.TheVariants.{Cut, TypeByte, Kind, Body, TypeAsked, CellLimit}
use Rattle.sheet.specs.Examples.{quarter_bytes, quarter_sheet, every_kind_bytes, every_kind_sheet, misused_bytes}

pub examples_read : (sheet_of quarter_bytes ≡ result quarter_sheet) × (sheet_of every_kind_bytes ≡ result every_kind_sheet)
unfolding meaning_of operands_of read_each names_of body_from own_of read_expression field_of bytes_of section_of
    kept_count read_wires outputs_from wires_from read_sheet sheet_of
examples_read = (refl, refl)

pub misused_refused : map (λ s. packed_checked (check_of s)) misused_bytes
    ≡ packed_refusal TypeByte 2 ∷ packed_refusal TypeByte 1 ∷ packed_refusal Kind 5 ∷ packed_refusal Body 5 ∷ packed_refusal Body 5
    ∷ packed_refusal TypeAsked 6 ∷ packed_refusal Cut 6 ∷ packed_refusal CellLimit 68
    ∷ packed_refusal CellLimit 68 ∷ packed_refusal TypeAsked 10 ∷ packed_refusal Cut 12 ∷ []
unfolding meaning_of operands_of read_each names_of body_from own_of read_expression field_of bytes_of section_of
    kept_count read_wires outputs_from wires_from read_sheet
misused_refused = refl
