-- The table of the maker's cases holds.
use Rattle.std.specs.Prelude.{◌≡◌, refl, true}
use Rattle.sheet.specs.Kinds.{meaning_of, operands_of}
use Rattle.sheet.specs.Lists.{among, all_among}
use Rattle.sheet.specs.Outcomes.{lowest}
use Rattle.sheet.specs.Reads.{wires_read}
use Rattle.sheet.specs.Readings.{read_each, names_of, body_from, own_of, read_expression}
use Rattle.sheet.specs.Headers.{field_of, bytes_of, section_of}
use Rattle.sheet.specs.Sheets.{kept_count, read_wires, outputs_from, wires_from, read_sheet, sheet_of}
use Rattle.closure.specs.Closures.{through}
use Rattle.kernel.specs.Instants.{reads_at}
use Rattle.kernel.specs.Depths.{deepest, depth_within, depth_of, wires_below, greatest_depth}
use Rattle.kernel.specs.Cases.{same_bytes, all}
use Rattle.maker.specs.Reaching.{reaches_itself}
use Rattle.maker.specs.Making.{ready, placed_by, made_list, made_of, maker_outcome, maker_call}
use Rattle.maker.specs.Cases.{holds, table}

pub table-holds : all holds table ≡ true
unfolding meaning_of operands_of lowest read_each names_of body_from own_of read_expression field_of bytes_of section_of
    kept_count read_wires outputs_from wires_from read_sheet sheet_of among all_among wires_read reads_at same_bytes all
    through reaches_itself ready placed_by made_list made_of maker_outcome maker_call
    deepest depth_within depth_of wires_below greatest_depth holds table
table-holds = refl
