-- Joined counts and the joined length within their limits, which is what the test of 23 says where it fails.
use Rattle.std.specs.Prelude.{ℕ, ◌+◌, ◌≤◌, ◌≡◌, false, ◌||◌, ltb, length}
use Rattle.std.proofs.Common.{ltb-false}
use Rattle.sheet.specs.Sheets.{Sheet, sheet_forms}
use Rattle.sheet.specs.Laws.Lists.{neither}
use Rattle.join.specs.Calls.{is_above}
use Rattle.sheet.specs.declared.Counts.{Counts}

-- the counts of a sheet, as the check answers them
abbrev pub counts_of : Sheet → Counts
counts_of sheet =
    record {
      inputs = length sheet.input_types;
      wires = length sheet.wire_types;
      outputs = length sheet.outputs;
      cells = length (sheet_forms sheet);
    }

pub record Limited (first second : Counts) (long : ℕ) : Type 0 where
  pub of_inputs : first.inputs + second.inputs ≤ 16
  pub of_wires : first.wires + second.wires ≤ 64
  pub of_outputs : first.outputs + second.outputs ≤ 16
  pub of_cells : first.cells + second.cells ≤ 64
  pub of_bytes : long ≤ 4096

pub limited : (first second : Counts) (long : ℕ) → is_above first second long ≡ false → Limited first second long
limited first second long e =
    let inputs = ltb 16 (first.inputs + second.inputs) in
    let wires = ltb 64 (first.wires + second.wires) in
    let outputs = ltb 16 (first.outputs + second.outputs) in
    let cells = ltb 64 (first.cells + second.cells) in
    let (e₄, bytes) = neither (inputs || wires || outputs || cells) (ltb 4096 long) e in
    let (e₃, d) = neither (inputs || wires || outputs) cells e₄ in
    let (e₂, c) = neither (inputs || wires) outputs e₃ in
    let (a, b) = neither inputs wires e₂ in
    record {
      of_inputs = ltb-false 16 _ a;
      of_wires = ltb-false 64 _ b;
      of_outputs = ltb-false 16 _ c;
      of_cells = ltb-false 64 _ d;
      of_bytes = ltb-false 4096 _ bytes;
    }
