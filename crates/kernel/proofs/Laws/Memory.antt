-- Types from instant to instant, for a well-typed sheet: under a valid memory every known value is of its wire's type; and where all
-- are known, the outputs are of their types and the next memory is valid, so that what is written passes 12 and 13 again.
use Rattle.std.specs.Prelude.{◌≡◌, refl, List, [], ◌∷◌, map, length, get_or}
use Prim.Native.Nat.{ℕ, zero, suc, ◌+◌, ◌*◌, ◌<◌}
use Rattle.std.proofs.Common.{arith}
use Rattle.std.proofs.Math.Bool.{false}
use Rattle.std.proofs.Math.Option.{some}
use Rattle.std.proofs.Math.ListN.{get_elem?}
use Rattle.sheet.specs.Data.{ValueType, boolean}
use Rattle.sheet.specs.Expressions.{Expression, cell_count}
use Rattle.sheet.specs.Outcomes.{result}
use Rattle.sheet.specs.Sheets.{Sheet, forms_of, sheet_forms}
use Rattle.sheet.specs.Memory.{memory_bytes, memory_of}
use Rattle.sheet.specs.Typing.{done, ◌then◌, HaveTypes, WellTyped, ValidCells, ValidMemory, ValidRow, ValidInputs}
use Rattle.sheet.proofs.Laws.Memory.{pairwise_append, pairwise-length, memory_length, memory_back, memory_valid, row-valid}
use Rattle.sheet.proofs.Laws.Typing.{PassedCheck, checked_well_typed}
use Rattle.sheet.specs.declared.Datum.{Datum}
use Rattle.sheet.specs.declared.Cell.{Cell}
use Rattle.kernel.specs.Values.{datum_in, IsKnown, known, Has, has, Fits, unknown-fits, known-fits}
use Rattle.kernel.specs.Order.{value_at}
use Rattle.kernel.specs.Instant.{Environment}
use Rattle.kernel.specs.Systems as System
use Rattle.kernel.specs.Systems.{Full}
use Rattle.kernel.specs.Instants.{wire_count, values, stored_cells, lasts_of, under, round, finished, next_memory, output_row}
use Rattle.kernel.specs.Calls.{Given, given_of}
use Rattle.sheet.specs.Laws.Lists.{never}
use Rattle.kernel.proofs.Laws.Order.{unknown-at}
use Rattle.kernel.proofs.Laws.Given.{given_by}
use Rattle.kernel.proofs.Laws.Typing.{OnWires, ValidFrom, parts, valid-from-start, Inherited, fits_inherited, value-typed}
use Rattle.kernel.proofs.Laws.Lasts.{lasts_typed}
use Rattle.kernel.proofs.Laws.Storing.{datum-type, stored-valid}
use Rattle.kernel.specs.declared.Value.{Value}

module _ (P : ValueType → Value → Type 0) (inherited : Inherited P)
    (input_types wire_types : List ValueType) (now : Environment)
    (on_inputs : ValidRow input_types now.inputs) (on_lasts : ValidRow wire_types now.lasts)
    (on_wires : OnWires P wire_types now.wires) where
  pub wires-typed : {ts : List ValueType} {es : List Expression} (k : ℕ)
      → HaveTypes input_types wire_types ts es → ValidFrom now.memory (forms_of es) k
      → OnWires P ts (values now es k)
  unfolding forms_of values OnWires
  wires-typed k done m w t e = never (cc)
  wires-typed k (◌then◌ {x = u} {y = a} {ys = es} h hs) m zero t e =
      let s : t ≡ u = cc in
      let cells = (parts now.memory a (forms_of es) k m).0 in
      rw s (value-typed P inherited input_types wire_types now on_inputs on_lasts on_wires u a false k h cells)
  wires-typed k (◌then◌ {y = a} {ys = es} h hs) m (suc w) t e =
      wires-typed (k + cell_count a) hs (parts now.memory a (forms_of es) k m).1 w t e

module _ (input_types wire_types : List ValueType) (now : Environment)
    (on_inputs : ValidRow input_types now.inputs) (on_lasts : ValidRow wire_types now.lasts)
    (on_wires : OnWires Has wire_types now.wires) where
  pub cells-valid : {ts : List ValueType} {es : List Expression} (k : ℕ)
      → HaveTypes input_types wire_types ts es → ValidFrom now.memory (forms_of es) k
      → ValidCells (forms_of es) (stored_cells now es k)
  unfolding forms_of stored_cells
  cells-valid k done m = done
  cells-valid k (◌then◌ {x = u} {y = a} {ys = es} h hs) m =
      let (m₁, m₂) = parts now.memory a (forms_of es) k m in
      pairwise_append (stored-valid input_types wire_types now on_inputs on_lasts on_wires u a false k h m₁)
      (cells-valid (k + cell_count a) hs m₂)

has_both : {t : ValueType} {v : Value} → IsKnown v → Fits t v → Has t v
has_both known (known-fits e) = has e

typed-range : (types : List ValueType) (w : ℕ) {t : ValueType} → get_elem? types w ≡ some t → w < length types
typed-range [] w e = never (cc)
typed-range (u ∷ ts) zero e = omega arith
typed-range (u ∷ ts) (suc w) e = omega (arith, typed-range ts w e)

module _ (sheet : Sheet) (inputs : List Datum) (memory : List Cell)
    (well_typed : WellTyped sheet) (valid_inputs : ValidInputs sheet inputs) (valid_memory : ValidMemory sheet memory) where
  -- what kind 18 gives is of its wire's type
  pub lasts_valid : ValidRow sheet.wire_types (lasts_of sheet memory)
  lasts_valid = lasts_typed sheet.input_types sheet.wire_types memory 0 well_typed (valid-from-start valid_memory)

  -- a round keeps types
  pub round-typed : (P : ValueType → Value → Type 0) → Inherited P → (xs : List Value) → OnWires P sheet.wire_types xs
      → OnWires P sheet.wire_types (round sheet inputs memory xs)
  unfolding round
  round-typed P inherited xs h =
      wires-typed P inherited sheet.input_types sheet.wire_types (under sheet inputs memory xs) valid_inputs lasts_valid h 0 well_typed
      (valid-from-start valid_memory)

  pub after-typed : (k : ℕ) → OnWires Fits sheet.wire_types (System.after (wire_count sheet) (round sheet inputs memory) k)
  unfolding System.after OnWires
  after-typed zero w t e = rw (unknown-at (wire_count sheet) w) unknown-fits
  after-typed (suc k) w t e =
      round-typed Fits fits_inherited (System.after (wire_count sheet) (round sheet inputs memory) k) (after-typed k) w t e

  pub finished-typed : OnWires Fits sheet.wire_types (finished sheet inputs memory)
  unfolding finished System.finished
  finished-typed = after-typed (System.rounds (wire_count sheet) (round sheet inputs memory))

  -- where no wire is left unknown, each has a value of its type
  pub finished-has : Full (wire_count sheet) (finished sheet inputs memory)
      → OnWires Has sheet.wire_types (finished sheet inputs memory)
  unfolding OnWires Full
  finished-has full w t e =
      has_both (full w (omega (arith, typed-range sheet.wire_types w e, pairwise-length well_typed))) (finished-typed w t e)

  -- and the next memory is valid
  pub next_memory_valid : Full (wire_count sheet) (finished sheet inputs memory)
      → ValidMemory sheet (next_memory sheet inputs memory (finished sheet inputs memory))
  unfolding next_memory
  next_memory_valid full =
      cells-valid sheet.input_types sheet.wire_types (under sheet inputs memory (finished sheet inputs memory)) valid_inputs
      lasts_valid (finished-has full) 0 well_typed (valid-from-start valid_memory)

  -- what is written of it passes 12 and 13 again and reads back as itself
  pub next_memory_back : Full (wire_count sheet) (finished sheet inputs memory)
      → memory_of (sheet_forms sheet) (memory_bytes (next_memory sheet inputs memory (finished sheet inputs memory)))
      ≡ result (next_memory sheet inputs memory (finished sheet inputs memory))
  next_memory_back full = memory_back (next_memory_valid full)

  pub next_memory_length : Full (wire_count sheet) (finished sheet inputs memory)
      → length (memory_bytes (next_memory sheet inputs memory (finished sheet inputs memory))) ≡ 5 * length (sheet_forms sheet)
  next_memory_length full =
      let cells = next_memory sheet inputs memory (finished sheet inputs memory) in
      omega (arith, memory_length cells, pairwise-length (next_memory_valid full))

-- the outputs are of their wires' types
type_at : (types : List ValueType) (w : ℕ) → w < length types → get_elem? types w ≡ some (get_or types w boolean)
type_at [] w l = absurd (omega arith)
type_at (t ∷ ts) zero l = refl
type_at (t ∷ ts) (suc w) l = type_at ts w (omega arith)

outputs-valid : (types : List ValueType) (wires : List Value) → OnWires Has types wires
    → (outputs : List ℕ) → ((i : ℕ) → i < length outputs → get_or outputs i 0 < length types)
    → ValidRow (map (λ w. get_or types w boolean) outputs) (map (λ w. datum_in (value_at wires w)) outputs)
unfolding OnWires
outputs-valid types wires h [] l = done
outputs-valid types wires h (w ∷ ws) l =
    datum-type (h w (get_or types w boolean) (type_at types w (l 0 (omega arith))))
    then outputs-valid types wires h ws (λ i m. l (suc i) (omega arith))

pub output_row-valid : (s : List ℕ) (sheet : Sheet) (wires : List Value) → PassedCheck s sheet → OnWires Has sheet.wire_types wires
    → ValidRow (map (λ w. get_or sheet.wire_types w boolean) sheet.outputs) (output_row sheet wires)
unfolding output_row
output_row-valid s sheet wires p h =
    outputs-valid sheet.wire_types wires h sheet.outputs (λ i l. omega (arith, p.outputs-are-wires i l, p.same_length))

-- What passed 1 to 16 is valid.
pub record ValidGiven (given : Given) : Type 0 where
  pub sheet : WellTyped given.sheet
  pub inputs : ValidInputs given.sheet given.inputs
  pub memory : ValidMemory given.sheet given.memory

pub given-valid : (s memory input output : List ℕ) (given : Given) → given_of s memory input output ≡ result given → ValidGiven given
given-valid s memory input output given e =
    let g = given_by s memory input output given e in
    record {
      sheet = checked_well_typed s given.sheet g.sheet;
      inputs = row-valid given.sheet.input_types input g.inputs;
      memory = memory_valid (sheet_forms given.sheet) memory g.cells;
    }
