-- Under inputs and cells of their types: where each wire has a value of its type, so does each expression; where each wire is unknown
-- or of its type, so is each expression. Both are one induction, over a predicate of a type and a value.
use Rattle.std.specs.Prelude.{◌≡◌, ℕ, zero, suc, ◌+◌, ◌<◌, Bool, true, false, ◌||◌, cond, List, [], ◌∷◌, ◌++◌, neg_ℤ, ◌+ℤ◌, ◌-ℤ◌, length}
use Rattle.std.proofs.Common.{subst, arith}
use Rattle.std.proofs.Math.Option.{some}
use Rattle.std.proofs.Math.ListN.{get_elem?}
use Rattle.numbers.proofs.Laws.Nearest.{settled-fits}
use Rattle.sheet.specs.Data.{ValueType, boolean, IsOf}
use Rattle.sheet.specs.Expressions.{Expression, constant, wire, input, last, unary, binary, conditional, switch, pre, fby, kept}
use Rattle.sheet.specs.Expressions.{Unary, negation, negative}
use Rattle.sheet.specs.Expressions.{Binary, conjunction, disjunction, sum, difference, lessThan, equality}
use Rattle.sheet.specs.Expressions.{Alternatives, only, either}
use Rattle.sheet.specs.Expressions.{CellForm, pre_cell, fby_cell, switch_forms, cell_forms, forms_in, cell_count, count_in}
use Rattle.sheet.specs.Typing.{done, ◌then◌, unary_type, operand_type, result_type, HasType, AlternativesHaveType, ValidCell, ValidCells, ValidRow}
use Rattle.sheet.specs.Laws.Readings.{forms_length, forms_in_length}
use Rattle.sheet.proofs.Laws.Typing.{own-type}
use Rattle.sheet.specs.declared.Datum.{Datum}
use Rattle.sheet.specs.declared.Cell.{Cell}
use Rattle.sheet.specs.declared.Cell.TheVariants.{NotStarted, Started}
use Rattle.kernel.specs.Values.{truth, amount, when_known, Has, has, Fits, unknown-fits, known-fits}
use Rattle.kernel.specs.Order.{value_at}
use Rattle.kernel.specs.Operations.{apply_unary, apply_binary}
use Rattle.kernel.specs.Instant.{Environment, input_at, cell_at, held_or, known_or, state_of, second_runs, makes_fresh, value, value_in}
use Rattle.sheet.specs.Laws.Lists.{never}
use Rattle.kernel.proofs.Laws.Switches.{picked}
use Rattle.kernel.specs.declared.Value.{Value}
use Rattle.kernel.specs.declared.Value.TheVariants.{Known}

-- P holds of the value of each wire, at the wire's type
unfoldable pub OnWires : (ValueType → Value → Type 0) → List ValueType → List Value → Type 0
OnWires P types wires = (w : ℕ) (t : ValueType) → get_elem? types w ≡ some t → P t (value_at wires w)

-- the cells of the memory from number k on are valid for the forms
unfoldable pub ValidFrom : List Cell → List CellForm → ℕ → Type 0
ValidFrom memory [] k = Unit {0}
ValidFrom memory (f ∷ fs) k = (k < length memory) × ValidCell f (cell_at memory k) × ValidFrom memory fs (suc k)

append-valid : (memory : List Cell) (fs gs : List CellForm) (k : ℕ) → ValidFrom memory (fs ++ gs) k
    → ValidFrom memory fs k × ValidFrom memory gs (k + length fs)
unfolding ValidFrom
append-valid memory [] gs k h = let e : k + 0 ≡ k = omega arith in (tt, rw e h)
append-valid memory (f ∷ fs) gs k h =
    let (first, second) = append-valid memory fs gs (suc k) h.2 in
    let e : k + suc (length fs) ≡ suc k + length fs = omega arith in
    ((h.0, h.1, first), rw e second)

-- the cells of an operand, and those that come after
pub parts : (memory : List Cell) (e : Expression) (fs : List CellForm) (k : ℕ) → ValidFrom memory (cell_forms e ++ fs) k
    → ValidFrom memory (cell_forms e) k × ValidFrom memory fs (k + cell_count e)
parts memory e fs k h = rw (forms_length e) at (append-valid memory (cell_forms e) fs k h)

-- those of a switch: of its conditions, and of its bodies
pub switch-parts : (memory : List Cell) (own : List CellForm) (cs bs : Alternatives) (k : ℕ)
    → ValidFrom memory (own ++ (forms_in cs ++ forms_in bs)) k
    → ValidFrom memory (forms_in cs) (k + length own) × ValidFrom memory (forms_in bs) (k + length own + count_in cs)
switch-parts memory own cs bs k h =
    let inner = (append-valid memory own (forms_in cs ++ forms_in bs) k h).1 in
    rw (forms_in_length cs) at (append-valid memory (forms_in cs) (forms_in bs) (k + length own) inner)

-- a valid memory is valid from its first cell on
tail-valid : (memory : List Cell) (c : Cell) (fs : List CellForm) (k : ℕ) → ValidFrom memory fs k → ValidFrom (c ∷ memory) fs (suc k)
unfolding ValidFrom
tail-valid memory c [] k h = tt
tail-valid memory c (f ∷ fs) k h = (omega (arith, h.0), h.1, tail-valid memory c fs (suc k) h.2)

pub valid-from-start : {fs : List CellForm} {memory : List Cell} → ValidCells fs memory → ValidFrom memory fs 0
unfolding ValidFrom
valid-from-start done = tt
valid-from-start (◌then◌ {y = c} {xs = fs} {ys = cs} p ps) = (omega arith, p, tail-valid cs c fs 0 (valid-from-start ps))

pub unary_type_lem : (o : Unary) (d : Datum) → IsOf (unary_type o) (apply_unary o d)
unary_type_lem negation d = tt
unary_type_lem negative d = settled-fits (neg_ℤ (amount d))

pub binary-type : (o : Binary) (d e : Datum) → IsOf (result_type o) (apply_binary o d e)
binary-type conjunction d e = tt
binary-type disjunction d e = tt
binary-type sum d e = settled-fits (amount d +ℤ amount e)
binary-type difference d e = settled-fits (amount d -ℤ amount e)
binary-type lessThan d e = tt
binary-type equality d e = tt

held-type : (t : ValueType) (fresh : Bool) (d : Datum) (c : Cell) → IsOf t d → ValidCell (pre_cell d) c
    → IsOf t (held_or d (cond fresh (Started d) c))
held-type t true d c p q = p
held-type t false d NotStarted p q = p
held-type t false d (Started e) p q = rw (own-type t d p) at q

input-type : {ts : List ValueType} {inputs : List Datum} → ValidRow ts inputs → (i : ℕ) (t : ValueType) → get_elem? ts i ≡ some t
    → IsOf t (input_at inputs i)
input-type done i t e = never (cc)
input-type (◌then◌ {x = u} p row) zero t e = let s : t ≡ u = cc in rw s p
input-type (p then row) (suc i) t e = input-type row i t e

-- a predicate that data of the type meet, and that strict functions hand on
pub record Inherited (P : ValueType → Value → Type 0) : Type 0 where
  pub datum : {t : ValueType} {d : Datum} → IsOf t d → P t (Known d)
  pub strict : {t u : ValueType} {v : Value} {f : Datum → Value}
      → P t v → ((d : Datum) → IsOf t d → P u (f d)) → P u (when_known v f)

strict-fits : {t u : ValueType} {v : Value} {f : Datum → Value} → Fits t v → ((d : Datum) → IsOf t d → Fits u (f d))
    → Fits u (when_known v f)
strict-fits unknown-fits h = unknown-fits
strict-fits (known-fits {d} e) h = h d e

pub fits_inherited : Inherited Fits
fits_inherited = record { datum = known-fits; strict = strict-fits }

strict-has : {t u : ValueType} {v : Value} {f : Datum → Value} → Has t v → ((d : Datum) → IsOf t d → Has u (f d))
    → Has u (when_known v f)
strict-has (has {d} e) h = h d e

pub has_inherited : Inherited Has
has_inherited = record { datum = has; strict = strict-has }

module _ (P : ValueType → Value → Type 0) (inherited : Inherited P)
    (input_types wire_types : List ValueType) (now : Environment)
    (on_inputs : ValidRow input_types now.inputs) (on_lasts : ValidRow wire_types now.lasts)
    (on_wires : OnWires P wire_types now.wires) where
  open inherited use {datum, strict}

  from_cell : {t : ValueType} (fresh : Bool) {v : Value} (c : Cell) → P t v → ValidCell (fby_cell t) c
      → P t (known_or v (cond fresh NotStarted c))
  from_cell true c p q = p
  from_cell false NotStarted p q = p
  from_cell false (Started e) p q = datum q

  mutual
    unfolding value HasType cell_forms ValidFrom OnWires

    pub value-typed : (t : ValueType) (e : Expression) (fresh : Bool) (k : ℕ)
        → HasType input_types wire_types t e → ValidFrom now.memory (cell_forms e) k → P t (value now fresh e k)
    value-typed t (constant d) fresh k h m = datum h
    value-typed t (wire w) fresh k h m = on_wires w t h
    value-typed t (input i) fresh k h m = datum (input-type on_inputs i t h)
    value-typed t (last w) fresh k h m = datum (input-type on_lasts w t h)
    value-typed t (unary o a) fresh k h m =
        strict (value-typed (unary_type o) a fresh k h.1 m) (λ x p.
        datum (subst (λ u. IsOf u (apply_unary o x)) h.0 (unary_type_lem o x)))
    value-typed t (binary o a b) fresh k h m =
        let (m₁, m₂) = parts now.memory a (cell_forms b) k m in
        strict (value-typed (operand_type o) a fresh k h.1 m₁) (λ x p.
        strict (value-typed (operand_type o) b fresh (k + cell_count a) h.2 m₂) (λ y q.
        datum (subst (λ u. IsOf u (apply_binary o x y)) h.0 (binary-type o x y))))
    value-typed t (conditional c a b) fresh k h m =
        let (m₁, m₂₃) = parts now.memory c (cell_forms a ++ cell_forms b) k m in
        let (m₂, m₃) = parts now.memory a (cell_forms b) (k + cell_count c) m₂₃ in
        strict (value-typed boolean c fresh k h.0 m₁) (λ x p.
        strict (value-typed t a fresh (k + cell_count c) h.1 m₂) (λ y q.
        strict (value-typed t b fresh (k + cell_count c + cell_count a) h.2 m₃) (λ z r.
        datum (picked (IsOf t) (truth x) r q))))
    value-typed t (switch o cs bs) fresh k h m =
        let first = k + length (switch_forms o) in
        let (m₁, m₂) = switch-parts now.memory (switch_forms o) cs bs k m in
        let state = state_of now fresh o k in
        strict (typed_in boolean cs state fresh first h.0 m₁) (λ x p.
        typed_in t bs (second_runs o state (truth x)) (makes_fresh o (truth x) || fresh) (first + count_in cs) h.1 m₂)
    value-typed t (pre d a) fresh k h m = datum (held-type t fresh d (cell_at now.memory k) h.0 m.1)
    value-typed t (fby u a b) fresh k h m =
        let left = (parts now.memory a (cell_forms b) (suc k) m.2).0 in
        let cell = subst (λ x. ValidCell (fby_cell x) (cell_at now.memory k)) h.0 m.1 in
        from_cell fresh (cell_at now.memory k) (value-typed t a fresh (suc k) h.1 left) cell
    value-typed t (kept u a) fresh k h m = value-typed t a fresh (suc k) h.1 m.2

    typed_in : (t : ValueType) (xs : Alternatives) (second fresh : Bool) (k : ℕ)
        → AlternativesHaveType input_types wire_types t xs → ValidFrom now.memory (forms_in xs) k → P t (value_in now second fresh xs k)
    typed_in t (only a) second fresh k h m = value-typed t a fresh k h m
    typed_in t (either a b) second fresh k h m =
        let (m₁, m₂) = parts now.memory a (cell_forms b) k m in
        picked (P t) second (value-typed t a fresh k h.0 m₁) (value-typed t b fresh (k + cell_count a) h.1 m₂)
