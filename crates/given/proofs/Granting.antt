-- What buffers that passed 1 to 16 grant: an instant runs by the parts of their sheet.
use Prim.Native.Nat.{ℕ, ◌+◌, ◌-◌, ◌*◌, ◌≤◌, ◌<◌}
use mathlib.Core.Path.{◌≡◌, refl, sym, ap, ap₂, ◌∙◌}
use mathlib.Core.Bool.{true, false}
use mathlib.Core.List.{List, map}
use Rattle.sheet.specs.declared.Refusal.TheVariants.{TypeByte, OutputWire}
use native.Mathlib.Omega.{arith}
use lib.ListN.{length, get_or, take, drop, length-map}
use Rattle.sheet.specs.Data.{type_of_byte, wire_type}
use Rattle.sheet.specs.Expressions.{Expression, CellForm}
use Rattle.sheet.specs.Readings.{got}
use Rattle.sheet.specs.Outcomes.{refusal, result}
use Rattle.sheet.specs.Sheets.{Sheet, sheet_forms, before, read_wires}
use Rattle.sheet.specs.Laws.Headers.{SheetRead, sheet-view, section_good, section-length}
use Rattle.sheet.proofs.Laws.Typing.{passed_check}
use Rattle.sheet.proofs.Laws.Memory.{memory_view}
use Rattle.sheet_expressions.specs.declared.map.Map.{Map}
use Rattle.sheet_expressions.specs.Map.{StartsAt, EachHoldsJust, Sited, Mapped, wires_of, run_of}
use Rattle.kernel.specs.Instants.{reads_at}
use Rattle.kernel.proofs.Laws.Reads.{reads-of-tree}
use Rattle.kernel.specs.Calls.{Given, given_of}
use Rattle.kernel.proofs.Laws.Given.{given_by}
use Rattle.kernel.proofs.Laws.Memory.{given-valid}
use Rattle.leaves.specs.Words.{word_count, InputsPut, KeptCells, LastsPut}
use Rattle.sheet.specs.Laws.Lists.{never}
use Rattle.std.specs.Prelude.{Ok, Err}
use Rattle.sheet.specs.declared.Refused.{Refused}
use Rattle.expression.specs.Places.{CellsStand}
use Rattle.rounds.specs.Outputs.{Below}
use Rattle.given.specs.Grants.{part, Granted, GrantedBy, Grants}
use Rattle.given.specs.declared.Parts.{Parts}
use Rattle.given.proofs.Standing.{Bytes, memory_stands, input-words, input-length}
use Rattle.given.proofs.Keeping.{kept-cells, last-words}
use Rattle.given.proofs.Passing.{own-tests, buffers, buffers_refused, buffers_passed}
use Rattle.buffers.specs.Tests.{Tested, Formed, buffers_tested}
use Rattle.buffers.specs.Laws.{noted-hold, held_forms}
use Rattle.sheet.proofs.Laws.Checked.{CheckPassed}

-- a run that reads, by equal names
renamed : (s inputs types others : List ℕ) (at first n k : ℕ) (es trees : List Expression)
    → read_wires inputs types s at ≡ got es n k → others ≡ types → first ≡ at → trees ≡ es → read_wires inputs others s first ≡ got trees n k
renamed s inputs types others at first n k es trees e p q r = rw (p, q, r) e

-- where a wire starts, by equal names
restarted : {s inputs types others : List ℕ} {at first n k : ℕ} {es trees : List Expression}
    {each : read_wires inputs types s at ≡ got es n k} {again : read_wires inputs others s first ≡ got trees n k} {w place cell : ℕ}
    → StartsAt (run_of inputs types s at es n k each) w place cell → types ≡ others → es ≡ trees
    → StartsAt (run_of inputs others s first trees n k again) w place cell
restarted here p q =
    record {
      tree = here.tree;
      next = here.next;
      count = here.count;
      reads = rw p at here.reads;
      whole = rw (p, q) at here.whole;
      first = rw (p, q) at here.first;
    }

-- the wires' type bytes, the outputs' bytes and the first expression of a sheet with these counts
module _ (s : List ℕ) (inputs wires outputs : ℕ) where
  abbrev types_at : List ℕ
  types_at = part s (2 + inputs) (2 + inputs + wires)

  abbrev outputs_at : List ℕ
  outputs_at = part s (2 + inputs + wires + 1) (2 + inputs + wires + 1 + outputs)

  abbrev first_at : ℕ
  first_at = 2 + inputs + wires + 1 + outputs

module _ (s memory input output places firsts reads : List ℕ) where
  -- what the checks answer grants what the call asks, refused or passed
  pub grants-refused : (words : List ℕ) {r : Refused} → given_of s memory input output ≡ refusal r.why r.place
      → Grants s memory input output places firsts reads words (Err r)
  grants-refused words {r} e =
      record { refused = λ {r = q} h. let is : r ≡ q = cc in rw (← is) e; passed = λ h. never (cc) }

  pub grants-passed : (words : List ℕ) {parts : Parts}
      → GrantedBy s memory input output places firsts reads words parts.types.now parts.outputs.now
      → Grants s memory input output places firsts reads words (Ok parts)
  grants-passed words {parts} g =
      record { refused = λ h. never (cc); passed = λ {parts = others} h. let is : parts ≡ others = cc in rw (← is) g }

  module _ (given : Given) (e : given_of s memory input output ≡ result given)
      (drawn : (sheet : Sheet) (n k : ℕ) (v : SheetRead s sheet n k) → Sited (wires_of v) places firsts reads)
      (small : Bytes memory) where
    abbrev input_count : ℕ
    input_count = length given.sheet.input_types

    abbrev wires_count : ℕ
    wires_count = length given.sheet.wire_types

    abbrev output_count : ℕ
    output_count = length given.sheet.outputs

    abbrev pub types_of : List ℕ
    types_of = types_at s input_count wires_count output_count

    abbrev outputs_of : List ℕ
    outputs_of = outputs_at s input_count wires_count output_count

    -- the parts of the sheet, by its counts
    record Parted : Type 0 where
      inputs : List ℕ
      within : first_at s input_count wires_count output_count ≤ length s
      cells : ℕ
      run : read_wires inputs types_of s (first_at s input_count wires_count output_count) ≡ got given.sheet.expressions (length s) cells
      starts : (w : ℕ) → w < length types_of
          → StartsAt (run_of inputs types_of s (first_at s input_count wires_count output_count) given.sheet.expressions (length s) cells run)
          w (get_or places w 0) (get_or firsts w 0)
      reading : EachHoldsJust reads (length types_of) (reads_at given.sheet.expressions)
      input_types : given.sheet.input_types ≡ map type_of_byte inputs
      wire_types : given.sheet.wire_types ≡ map wire_type types_of
      few : length types_of ≤ 64
      input_limit : length inputs ≤ 16
      wired : length given.sheet.expressions ≡ length types_of
      named : given.sheet.outputs ≡ outputs_of
      below : Below (length types_of) outputs_of
      set_room : 64 ≤ length reads

    parted : Parted
    unfolding Below
    parted =
        let passed = passed_check s (given_by s memory input output given e).sheet in
        let v = sheet-view s passed.read in
        let gi = section_good s 0 0 17 2 false TypeByte v.inputs in
        let gw = section_good s v.inputs_end 1 65 4 false TypeByte v.wires in
        let go = section_good s v.wires_end 1 17 (length (before s v.wires_end v.wire_count)) true OutputWire v.outputs in
        let map_of = drawn given.sheet (length s) passed.cells v in
        let inputs = before s v.inputs_end v.input_count in
        let types = before s v.wires_end v.wire_count in
        let outs = before s v.outputs_end v.output_count in
        let input_types : given.sheet.input_types ≡ map type_of_byte inputs = ap (λ (x : Sheet). x.input_types) v.is in
        let wire_types : given.sheet.wire_types ≡ map wire_type types = ap (λ (x : Sheet). x.wire_types) v.is in
        let outputs : given.sheet.outputs ≡ outs = ap (λ (x : Sheet). x.outputs) v.is in
        let trees : given.sheet.expressions ≡ v.expressions = ap (λ (x : Sheet). x.expressions) v.is in
        let ni : input_count ≡ v.input_count = ap length input_types ∙ length-map inputs type_of_byte ∙ section-length gi in
        let nw : wires_count ≡ v.wire_count = ap length wire_types ∙ length-map types wire_type ∙ section-length gw in
        let no : output_count ≡ v.output_count = ap length outputs ∙ section-length go in
        let sized : 2 + input_count + wires_count - (2 + input_count) ≡ v.wire_count = omega arith in
        let at-types : 2 + input_count ≡ v.wires_end - v.wire_count = omega (arith, gi.bytes.next, gw.bytes.next) in
        let outputsSized : first_at s input_count wires_count output_count - (2 + input_count + wires_count + 1) ≡ v.output_count = omega arith in
        let at-outputs : 2 + input_count + wires_count + 1 ≡ v.outputs_end - v.output_count =
        omega (arith, gi.bytes.next, gw.bytes.next, go.bytes.next) in
        let at_first : first_at s input_count wires_count output_count ≡ v.outputs_end =
        omega (arith, gi.bytes.next, gw.bytes.next, go.bytes.next) in
        let typesAre : types_of ≡ types = ap₂ (λ (a b : ℕ). take a (drop b s)) sized at-types in
        let outputsAre : outputs_of ≡ outs = ap₂ (λ (a b : ℕ). take a (drop b s)) outputsSized at-outputs in
        let named : given.sheet.outputs ≡ outputs_of = outputs ∙ sym outputsAre in
        let wired : length given.sheet.expressions ≡ length types_of =
        sym passed.same_length ∙ nw ∙ sym (section-length gw) ∙ sym (ap length typesAre) in
        record {
          inputs = inputs;
          within = rw at_first go.bytes.within;
          cells = passed.cells;
          run = renamed s inputs types types_of v.outputs_end (first_at s input_count wires_count output_count) (length s) passed.cells
              v.expressions given.sheet.expressions v.each typesAre at_first trees;
          starts = λ w l. restarted (map_of.wire w (rw typesAre at l)) (sym typesAre) (sym trees);
          reading = λ w l. rw (trees, reads-of-tree v.expressions w) (map_of.read w (rw typesAre at l));
          input_types = input_types;
          wire_types = rw typesAre wire_types;
          few = rw typesAre (omega (arith, section-length gw, gw.below));
          input_limit = omega (arith, section-length gi, gi.below);
          wired = wired;
          named = named;
          below = rw (← named) (λ k l. omega (arith, wired, passed.outputs-are-wires k l));
          set_room = map_of.room;
        }

    stand : CellsStand memory given.memory 0 (sheet_forms given.sheet)
    stand = memory_stands memory small (sheet_forms given.sheet) (given_by s memory input output given e).cells

    -- the types of the wires are there to be read, and so are the cells of those that are kept
    pub grants-kept : (first_at s input_count wires_count output_count ≤ length s) × KeptCells types_of firsts memory × (length types_of ≤ 64)
    grants-kept =
        (parted.within, kept-cells places firsts given.sheet given.memory parted.run parted.starts stand, parted.few)

    module _ (words : List ℕ) (put : InputsPut input words) (lasts : LastsPut types_of firsts memory words) (room : length words ≡ word_count) where
      granted : Granted s memory input output places firsts reads words types_of outputs_of
      granted =
          let by = given_by s memory input output given e in
          let valid = given-valid s memory input output given e in
          record {
            running = record {
              given = given;
              inputs = parted.inputs;
              first = first_at s input_count wires_count output_count;
              next = length s;
              count = parted.cells;
              run = parted.run;
              starts = parted.starts;
              input_types = parted.input_types;
              wire_types = parted.wire_types;
              few = parted.few;
              input_limit = parted.input_limit;
              on_inputs = input-words parted.inputs input words (rw parted.input_types at by.inputs) put;
              on_lasts =
                  last-words places firsts given.sheet given.memory parted.run parted.starts stand valid.sheet valid.memory
                  words lasts;
              memory_size = (memory_view (sheet_forms given.sheet) memory by.cells).sized;
              cells = stand;
              well_typed = valid.sheet;
              valid_inputs = valid.inputs;
              valid_memory = valid.memory;
            };
            reading = parted.reading;
            passes = e;
            wired = parted.wired;
            named = parted.named;
            below = parted.below;
            row = by.outputs ∙ ap (λ (l : List ℕ). 4 * length l) parted.named;
            room = room;
            set_room = parted.set_room;
          }

      pub granted-by : GrantedBy s memory input output places firsts reads words types_of outputs_of
      unfolding granted
      granted-by = record { granted = granted; stand = record { types_from = refl; outputs_from = refl } }

-- Once 1 to 11 are passed and the map is drawn: what the tests of the buffers, by the counts, refuse or grant.
module _ {s : List ℕ} {i w o k : ℕ} (p : CheckPassed s i w o k) {drawn : Map}
    (mapped : (sheet : Sheet) (n k : ℕ) (v : SheetRead s sheet n k) → Mapped (wires_of v) drawn)
    (memory input output : List ℕ) {tested : Tested}
    (tests : (fs : List CellForm) → Formed fs drawn.cells k
    → tested ≡ buffers_tested fs (map type_of_byte (take (1 + i - 1) (drop 1 s))) o memory input output) where
  own-tested : tested ≡ buffers s memory input output p.outcome
  own-tested =
      let noted = rw (← (ap sheet_forms p.view.is)) at (mapped p.sheet p.end _ p.view).cell in
      tests (sheet_forms p.sheet) (held_forms p.cells_are (noted-hold noted)) ∙ own-tests p memory input output

  pub tested-refused : {r : Refused} → tested ≡ Err r → given_of s memory input output ≡ refusal r.why r.place
  tested-refused h = buffers_refused _ _ _ _ p.outcome (sym own-tested ∙ h)

  module _ (small : Bytes memory) {u : Unit {0}} (h : tested ≡ Ok u) where
    -- the types of the wires and the outputs are there to be read, and so are the cells of the wires that are kept
    pub tested-kept : (first_at s i w o ≤ length s) × KeptCells (types_at s i w o) drawn.firsts memory × (length (types_at s i w o) ≤ 64)
        × (length input ≤ 64)
    tested-kept =
        let (given, passes, is) = buffers_passed _ _ _ _ p.outcome (sym own-tested ∙ h) in
        let (within, kept, few) = rw (is, p.inputs_are, p.wires-are, p.outputs-are)
        at (grants-kept _ _ _ _ _ _ _ given passes (λ sheet n k v. (mapped sheet n k v).sites) small) in
        (within, kept, few, input-length _ _ _ _ _ passes)

    pub tested-granted : {words : List ℕ} → InputsPut input words → LastsPut (types_at s i w o) drawn.firsts memory words
        → length words ≡ word_count → GrantedBy s memory input output drawn.places drawn.firsts drawn.reads words (types_at s i w o) (outputs_at s i w o)
    tested-granted put lasts room =
        let (given, passes, is) = buffers_passed _ _ _ _ p.outcome (sym own-tested ∙ h) in
        rw (is, p.inputs_are, p.wires-are, p.outputs-are)
        at (granted-by _ _ _ _ _ _ _ given passes (λ sheet n k v. (mapped sheet n k v).sites) small _ put
        (rw (is, p.inputs_are, p.wires-are) lasts) room)
