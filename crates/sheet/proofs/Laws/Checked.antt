-- What the answer of the check says of a sheet's bytes: the refusal of their reading, or the sheet that they are, by its four counts.
use Rattle.std.specs.Prelude.{ℕ, ◌+◌, ◌-◌, ◌≤◌, ◌<◌, ◌≡◌, refl, false, List, map, length, get_or, take, drop}
use Rattle.std.proofs.Common.{sym, ap, ◌∙◌, arith, get_or-take, get_or-drop}
use Rattle.std.proofs.lemmas.List.{length-map}
use Rattle.sheet.specs.Data.{type_of_byte, is_kept}
use Rattle.sheet.specs.Expressions.{is_kept_wire}
use Rattle.sheet.specs.Outcomes.{refusal, result}
use Rattle.sheet.specs.Readings.{Reading, refused, got}
use Rattle.sheet.specs.Sheets.{Sheet, sheet_forms, expression_at, before, kept_count, read_wires, read_sheet, outcome_of, sheet_of, counts_with, checked_of, check_of}
use Rattle.sheet.specs.Laws.Headers.{SheetRead, sheet-view, section_good, section-length}
use Rattle.sheet.specs.Laws.Lists.{never}
use Rattle.sheet.specs.Laws.Outcomes.{refused-parts}
use Rattle.sheet.proofs.Laws.Typing.{read-passed, read-counted, passed_check}
use Rattle.sheet.proofs.Laws.Wires.{all-extent, wires-kept}
use Rattle.sheet.specs.declared.Refusal.{Refusal}
use Rattle.sheet.specs.declared.Refusal.TheVariants.{TypeByte}
use Rattle.sheet.specs.Outcomes.{refused_at}
use Rattle.std.specs.Prelude.{Ok}
use Rattle.sheet.specs.declared.Counts.{Counts}

pub check_refused : (s : List ℕ) {why : Refusal} {place : ℕ} → check_of s ≡ refused_at why place → sheet_of s ≡ refusal why place
unfolding sheet_of
check_refused s {why} {place} = go (read_sheet s) refl
  where
    go : (x : Reading Sheet) → read_sheet s ≡ x → checked_of x ≡ refused_at why place → sheet_of s ≡ refusal why place
    go (refused found at) q h = let (why-is, place_is) = refused-parts h in rw (q, why-is, place_is)
    go (got sheet next count) q h = never (cc)

-- and towards the answer: the refusal, or the four counts
pub refused-checked : (s : List ℕ) {why : Refusal} {place : ℕ} → sheet_of s ≡ refusal why place → check_of s ≡ refused_at why place
unfolding sheet_of
refused-checked s {why} {place} = go (read_sheet s) refl
  where
    go : (x : Reading Sheet) → read_sheet s ≡ x → outcome_of x ≡ refusal why place → check_of s ≡ refused_at why place
    go (refused found at) q h = rw q (cc)
    go (got sheet next count) q h = never (cc)

pub passed-checked : (s : List ℕ) {sheet : Sheet} → sheet_of s ≡ result sheet
    → check_of s ≡ Ok (counts_with sheet (length (sheet_forms sheet)))
passed-checked s e = let p = passed_check s e in rw (p.read, p.counted)

-- a wire of a sheet that passes is kept just where its type byte says so: the types of the wires stand behind those of the inputs
pub kept-by-byte : (s : List ℕ) {sheet : Sheet} → sheet_of s ≡ result sheet → (w : ℕ) → w < length sheet.expressions
    → is_kept_wire (expression_at sheet.expressions w) ≡ is_kept (get_or s (2 + get_or s 0 0 + w) 0)
unfolding read_wires
kept-by-byte s {sheet} e w l =
    let p = passed_check s e in
    let v = sheet-view s p.read in
    let wires = before s v.wires_end v.wire_count in
    let g₁ = section_good s 0 0 17 2 false TypeByte v.inputs in
    let g₂ = section_good s v.inputs_end 1 65 4 false TypeByte v.wires in
    let trees : sheet.expressions ≡ v.expressions = ap (λ (x : Sheet). x.expressions) v.is in
    let run = all-extent (before s v.inputs_end v.input_count) wires s v.outputs_end v.each in
    let place : v.wires_end - v.wire_count + w ≡ 2 + get_or s 0 0 + w =
    omega (arith, g₁.count, g₁.bytes.next, g₂.bytes.next) in
    let inside : w < length wires = omega (arith, ap length trees, run.sized) in
    let few : w < v.wire_count = omega (arith, inside, section-length g₂) in
    let byte : get_or wires w 0 ≡ get_or s (2 + get_or s 0 0 + w) 0 = rw (get_or-take, get_or-drop, place) in
    ap (λ x. is_kept_wire (expression_at x w)) trees
    ∙ (wires-kept (before s v.inputs_end v.input_count) wires s wires v.outputs_end (kept_count wires) v.each w inside
    ∙ ap is_kept byte)

-- a sheet that passes the check with these counts; the types of its inputs stand behind its first byte
pub record CheckPassed (s : List ℕ) (inputs wires outputs cells : ℕ) : Type 0 where
  pub sheet : Sheet
  pub outcome : sheet_of s ≡ result sheet
  pub inputs_are : length sheet.input_types ≡ inputs
  pub wires-are : length sheet.wire_types ≡ wires
  pub outputs-are : length sheet.outputs ≡ outputs
  pub cells_are : length (sheet_forms sheet) ≡ cells
  pub few-inputs : inputs ≤ 16
  pub few-wires : wires ≤ 64
  pub few-outputs : outputs ≤ 16
  pub few-cells : cells ≤ 64
  pub end : ℕ
  pub view : SheetRead s sheet end cells
  pub within : 1 + inputs ≤ length s
  pub types : map type_of_byte (take (1 + inputs - 1) (drop 1 s)) ≡ sheet.input_types

pub check_passed : (s : List ℕ) (counts : Counts) → check_of s ≡ Ok counts
    → CheckPassed s counts.inputs counts.wires counts.outputs counts.cells
unfolding sheet_of
check_passed s counts = go (read_sheet s) refl
  where
    go : (x : Reading Sheet) → read_sheet s ≡ x → checked_of x ≡ Ok counts
        → CheckPassed s counts.inputs counts.wires counts.outputs counts.cells
    go (refused why place) q h = never (cc)
    go (got sheet next count) q h =
        let passed = read-passed s q in
        let is : counts_with sheet count ≡ counts = cc in
        let inputs : length sheet.input_types ≡ counts.inputs = ap (λ (x : Counts). x.inputs) is in
        let wires : length sheet.wire_types ≡ counts.wires = ap (λ (x : Counts). x.wires) is in
        let outputs : length sheet.outputs ≡ counts.outputs = ap (λ (x : Counts). x.outputs) is in
        let same : count ≡ counts.cells = ap (λ (x : Counts). x.cells) is in
        let cells : length (sheet_forms sheet) ≡ counts.cells = sym (read-counted s q) ∙ same in
        let view = rw same at (sheet-view s q) in
        let section = section_good s 0 0 17 2 false TypeByte view.inputs in
        let counted : view.input_count ≡ counts.inputs =
        sym (section-length section) ∙ sym (length-map (before s view.inputs_end view.input_count) type_of_byte)
        ∙ sym (ap (λ (x : Sheet). length x.input_types) view.is) ∙ inputs in
        let start : view.inputs_end - view.input_count ≡ 1 = omega (arith, section.bytes.next) in
        let long : 1 + counts.inputs - 1 ≡ counts.inputs = omega arith in
        let bytes : before s view.inputs_end view.input_count ≡ take (1 + counts.inputs - 1) (drop 1 s) = rw (start, counted, long) in
        record {
          sheet = sheet;
          outcome = rw q;
          inputs_are = inputs;
          wires-are = wires;
          outputs-are = outputs;
          cells_are = cells;
          few-inputs = omega (arith, passed.few-inputs);
          few-wires = omega (arith, passed.same_length, passed.few-wires);
          few-outputs = omega (arith, passed.few-outputs);
          few-cells = omega (arith, passed.counted, passed.few-cells);
          end = next;
          view = view;
          within = omega (arith, section.bytes.next, section.bytes.within, counted);
          types = sym (ap (λ (x : Sheet). x.input_types) view.is ∙ ap (map type_of_byte) bytes);
        }
