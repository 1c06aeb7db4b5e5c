-- Every sheet that passes the check is well typed, and what else its users need of it.
use Rattle.std.specs.Prelude.{ℕ, zero, suc, ◌+◌, ◌-◌, ◌≤◌, ◌<◌, ◌≡◌, refl, Bool, cond, ltb, eqb, pos, negsuc, length, get_or}
use Rattle.std.proofs.Common.{sym, ap, ap₂, ◌∙◌, arith, ltb-true, ltb-false}
use Rattle.std.proofs.Math.Path.{subst}
use Rattle.std.proofs.Math.Bool.{true, false}
use Rattle.std.proofs.Math.Option.{some}
use mathlib.Core.List.{List, [], ◌∷◌, map}
use Rattle.std.proofs.Math.ListN.{get_elem?}
use Rattle.std.proofs.lemmas.List.{length-map}
use Rattle.std.specs.Int.{w32}
use mir.Val.{to_z, sel, SFits}
use Rattle.numbers.specs.Words.{word_at}
use Rattle.sheet.specs.Data.{ValueType, boolean, number, type_of_byte, plain_byte, is_kept, wire_type, type_of, IsOf, datum_of}
use Rattle.sheet.specs.Expressions.{Expression, kept}
use Rattle.sheet.specs.Kinds.{body_of, operand, operands_of, limit_of, found_of, meaning_of, kind_count}
use Rattle.sheet.specs.Outcomes.{result}
use Rattle.sheet.specs.Sheets.{Sheet, sheet_forms, before, kept_count, read_wire, read_wires, read_sheet, sheet_of}
use Rattle.sheet.specs.Readings.{Reading, refused, got, read_each, named_at, read_expression}
use Rattle.sheet.specs.Typing.{HasType, HaveTypes, WellTyped, done, ◌then◌}
use Rattle.sheet.specs.Laws.Readings.{end, ◌▸◌, every-kind, run-view, no-level, expression_view}
use Rattle.sheet.proofs.Laws.Wires.{wire-view, all-extent, kept-few}
use Rattle.sheet.specs.Laws.Headers.{section_good, section-length, section-byte, sheet-view}
use Rattle.sheet.specs.declared.Datum.{Datum}
use Rattle.sheet.specs.declared.Datum.TheVariants.{Boolean, Number}
use Rattle.sheet.specs.declared.Refusal.TheVariants.{TypeByte, OutputWire}

-- a word read as signed is a number of 32 bits, also where it has more bits
pub word_fits : (word : ℕ) → SFits w32 (to_z w32 word)
word_fits word = go (ltb word 2147483648) refl
  where
    go : (t : Bool) → ltb word 2147483648 ≡ t → SFits w32 (sel t (pos word) (negsuc (4294967296 - suc word)))
    go true e = record { sfits = ltb-true word 2147483648 e }
    go false e = record { sfits = omega (arith, ltb-false word 2147483648 e) }

pub datum-is : (t : ValueType) (word : ℕ) → IsOf t (datum_of t word)
datum-is boolean word = tt
datum-is number word = word_fits word

pub own-type : (t : ValueType) (d : Datum) → IsOf t d → type_of d ≡ t
own-type boolean (Boolean b) h = refl
own-type number (Number z) h = refl
own-type boolean (Number z) h = elim h [ ]
own-type number (Boolean b) h = elim h [ ]

-- the type of what is named, an input or, where `plain` takes the mark of kept wires off, a wire
pub type-of-named : (plain : ℕ → ℕ) (bytes : List ℕ) (i : ℕ) {t : ℕ} → i < length bytes → plain (get_or bytes i 0) ≡ t
    → get_elem? (map (λ b. type_of_byte (plain b)) bytes) i ≡ some (type_of_byte t)
type-of-named plain [] i l e = absurd (omega arith)
type-of-named plain (b ∷ bytes) zero l e = ap (λ x. some (type_of_byte x)) e
type-of-named plain (b ∷ bytes) (suc i) l e = type-of-named plain bytes i (omega arith) e

module _ (inputs wires : List ℕ) where
  abbrev Typed : ValueType → Expression → Type 0
  Typed = HasType (map type_of_byte inputs) (map wire_type wires)

  abbrev AllTyped : List ValueType → List Expression → Type 0
  AllTyped = HaveTypes (map type_of_byte inputs) (map wire_type wires)

  of_one : {t : ValueType} {os : List Expression} → AllTyped (t ∷ []) os → Typed t (operand os 0)
  of_one (p then done) = p

  of_two : {t u : ValueType} {os : List Expression} → AllTyped (t ∷ u ∷ []) os → Typed t (operand os 0) × Typed u (operand os 1)
  of_two (p then q then done) = (p, q)

  of_three : {t u v : ValueType} {os : List Expression} → AllTyped (t ∷ u ∷ v ∷ []) os
      → Typed t (operand os 0) × Typed u (operand os 1) × Typed v (operand os 2)
  of_three (p then q then r then done) = (p, q, r)

  of_four : {t u v w : ValueType} {os : List Expression} → AllTyped (t ∷ u ∷ v ∷ w ∷ []) os
      → (Typed t (operand os 0) × Typed u (operand os 1)) × (Typed v (operand os 2) × Typed w (operand os 3))
  of_four (p then q then r then s then done) = ((p, q), (r, s))

  -- where the body names what it may, the type is the one asked, and the operands have the types asked of them
  abbrev TypedKind : ℕ → Type 0
  TypedKind k = (t word named : ℕ) (os : List Expression) → named < limit_of inputs wires k → found_of inputs wires t k named ≡ t
      → AllTyped (map type_of_byte (operands_of k t)) os
      → Typed (type_of_byte t) (meaning_of k (type_of_byte t) (cond (eqb (body_of k) 4) word named) os)

  typed-kind : (k : ℕ) → k < kind_count → TypedKind k
  unfolding meaning_of operands_of HasType
  typed-kind = every-kind TypedKind
      ((λ t w n os l e h. datum-is (type_of_byte t) n)
      ▸ (λ t w n os l e h. datum-is (type_of_byte t) w)
      ▸ (λ t w n os l e h. type-of-named plain_byte wires n l e)
      ▸ (λ t w n os l e h. type-of-named (λ b. b) inputs n l e)
      ▸ (λ t w n os l e h. (ap type_of_byte e, of_one h))
      ▸ (λ t w n os l e h. (ap type_of_byte e, of_one h))
      ▸ (λ t w n os l e h. (ap type_of_byte e, (of_two h).0, (of_two h).1))
      ▸ (λ t w n os l e h. (ap type_of_byte e, (of_two h).0, (of_two h).1))
      ▸ (λ t w n os l e h. (ap type_of_byte e, (of_two h).0, (of_two h).1))
      ▸ (λ t w n os l e h. (ap type_of_byte e, (of_two h).0, (of_two h).1))
      ▸ (λ t w n os l e h. (ap type_of_byte e, (of_two h).0, (of_two h).1))
      ▸ (λ t w n os l e h. (ap type_of_byte e, (of_two h).0, (of_two h).1))
      ▸ (λ t w n os l e h. of_three h)
      ▸ (λ t w n os l e h. ((of_three h).0, ((of_three h).1, (of_three h).2)))
      ▸ (λ t w n os l e h. of_two h)
      ▸ (λ t w n os l e h. (datum-is (type_of_byte t) n, subst (λ u. Typed (type_of_byte u) (operand os 0)) e (of_one h)))
      ▸ (λ t w n os l e h. (datum-is (type_of_byte t) w, subst (λ u. Typed (type_of_byte u) (operand os 0)) e (of_one h)))
      ▸ (λ t w n os l e h. (refl, (of_two h).0, (of_two h).1))
      ▸ (λ t w n os l e h. type-of-named plain_byte wires n l e)
      ▸ (λ t w n os l e h. of_four h)
      ▸ end)

  run-typed-by : (type_in : ℕ → ValueType) (read : ℕ → ℕ → ℕ → Reading Expression)
      → ((t at c : ℕ) (e : Expression) (n k : ℕ) → read t at c ≡ got e n k → Typed (type_in t) e)
      → (ts : List ℕ) (at c : ℕ) {es : List Expression} {n k : ℕ} → read_each read ts at c ≡ got es n k
      → AllTyped (map type_in ts) es
  unfolding read_each
  run-typed-by type_in read one [] at c {es} r = let trees : es ≡ [] = cc in rw trees done
  run-typed-by type_in read one (t ∷ ts) at c r =
      let v = run-view read t ts at c r in
      let typed =
      one t at c v.head v.next v.count v.first then run-typed-by type_in read one ts v.next v.count v.rest in
      subst (λ x. AllTyped (map type_in (t ∷ ts)) x) (sym v.trees) typed

  module _ (s : List ℕ) where
    pub expression_typed : (level t at c : ℕ) {e : Expression} {n k : ℕ} → read_expression inputs wires s level t at c ≡ got e n k
        → Typed (type_of_byte t) e
    expression_typed zero t at c r = absurd (no-level inputs wires s t at c r)
    expression_typed (suc l) t at c r =
        let v = expression_view inputs wires s l t at c r in
        let kind = get_or s at 0 in
        let each =
        run-typed-by type_of_byte (read_expression inputs wires s l) (λ u a b f m j. expression_typed l u a b)
        (operands_of kind t) v.first v.before v.each in
        let g = v.good in
        let typed =
        typed-kind kind g.kind t (word_at s (at + 1)) (named_at s at) v.operands g.names g.type each in
        subst (λ x. Typed (type_of_byte t) x) (sym v.tree) typed

    wire-typed : (b at c : ℕ) {e : Expression} {n k : ℕ} → read_wire inputs wires s b at c ≡ got e n k → Typed (wire_type b) e
    unfolding HasType
    wire-typed b at c {e} r =
        let v = wire-view inputs wires s b at c r in
        let typed = expression_typed 16 (plain_byte b) at c v.reads in
        subst (Typed (wire_type b)) (sym v.whole) (go v.tree typed (is_kept b))
      where
        go : (tree : Expression) → Typed (wire_type b) tree → (t : Bool) → Typed (wire_type b) (cond t (kept (wire_type b) tree) tree)
        go tree h true = (refl, h)
        go tree h false = h

    pub wires-typed : (at : ℕ) {es : List Expression} {n k : ℕ} → read_wires inputs wires s at ≡ got es n k
        → AllTyped (map wire_type wires) es
    unfolding read_wires
    wires-typed at =
        run-typed-by wire_type (read_wire inputs wires s) (λ b a c e n k. wire-typed b a c) wires at (kept_count wires)

-- What a sheet that passes the check is: users need nothing else.
pub record PassedCheck (s : List ℕ) (sheet : Sheet) : Type 0 where
  pub cells : ℕ
  pub read : read_sheet s ≡ got sheet (length s) cells
  pub counted : cells ≡ length (sheet_forms sheet)
  pub few-cells : cells ≤ 64
  pub well_typed_lem : WellTyped sheet
  pub same_length : length sheet.wire_types ≡ length sheet.expressions
  pub some-wire : 1 ≤ length sheet.expressions
  pub few-wires : length sheet.expressions ≤ 64
  pub few-inputs : length sheet.input_types ≤ 16
  pub some_output : 1 ≤ length sheet.outputs
  pub few-outputs : length sheet.outputs ≤ 16
  pub outputs-are-wires : (i : ℕ) → i < length sheet.outputs → get_or sheet.outputs i 0 < length sheet.expressions

pub sheet-reads : (s : List ℕ) {sheet : Sheet} → sheet_of s ≡ result sheet → (n : ℕ) × (k : ℕ) × (read_sheet s ≡ got sheet n k)
unfolding sheet_of
sheet-reads s {sheet} e = go (read_sheet s) refl
  where
    go : (r : Reading Sheet) → read_sheet s ≡ r → (n : ℕ) × (k : ℕ) × (read_sheet s ≡ got sheet n k)
    go (refused why place) p = absurd (let z : ◌≡◌ {A = ℕ} 0 1 = cc (rw p at e) in omega arith)
    go (got a n k) p = (n, k, cc (rw p at e))

pub read-passed : (s : List ℕ) {sheet : Sheet} {n k : ℕ} → read_sheet s ≡ got sheet n k → PassedCheck s sheet
read-passed s {sheet} {n} {k} e =
    let v = sheet-view s e in
    let inputs = before s v.inputs_end v.input_count in
    let wires = before s v.wires_end v.wire_count in
    let outputs = before s v.outputs_end v.output_count in
    let g₁ = section_good s 0 0 17 2 false TypeByte v.inputs in
    let g₂ = section_good s v.inputs_end 1 65 4 false TypeByte v.wires in
    let g₃ = section_good s v.wires_end 1 17 (length wires) true OutputWire v.outputs in
    let run = all-extent inputs wires s v.outputs_end v.each in
    let typed = wires-typed inputs wires s v.outputs_end v.each in
    let end : n ≡ length s = omega (arith, run.within g₃.bytes.within, v.nothing_left) in
    let passed : PassedCheck s (record {
      input_types = map type_of_byte inputs;
      wire_types = map wire_type wires;
      outputs = outputs;
      expressions = v.expressions;
    }) = record {
      cells = k;
      read = e ∙ ap₂ (λ x y. got x y k) v.is end;
      counted = omega (arith, run.counted);
      few-cells = run.limited (omega (arith, kept-few wires, section-length g₂, g₂.below));
      well_typed_lem = typed;
      same_length = length-map wires wire_type ∙ sym run.sized;
      some-wire = omega (arith, run.sized, section-length g₂, g₂.least);
      few-wires = omega (arith, run.sized, section-length g₂, g₂.below);
      few-inputs = omega (arith, length-map inputs type_of_byte, section-length g₁, g₁.below);
      some_output = omega (arith, section-length g₃, g₃.least);
      few-outputs = omega (arith, section-length g₃, g₃.below);
      outputs-are-wires = λ i l. omega (arith, run.sized, section-byte g₃ i (omega (arith, section-length g₃)));
    } in
    subst (λ x. PassedCheck s x) (sym v.is) passed

-- the count that the check answers is the count of the sheet's cells
pub read-counted : (s : List ℕ) {sheet : Sheet} {n k : ℕ} → read_sheet s ≡ got sheet n k → k ≡ length (sheet_forms sheet)
read-counted s e = let p = read-passed s e in cc (p.read, p.counted)

pub passed_check : (s : List ℕ) {sheet : Sheet} → sheet_of s ≡ result sheet → PassedCheck s sheet
passed_check s e = read-passed s (sheet-reads s e).2

pub checked_well_typed : (s : List ℕ) (sheet : Sheet) → sheet_of s ≡ result sheet → WellTyped sheet
checked_well_typed s sheet e = (passed_check s e).well_typed_lem
