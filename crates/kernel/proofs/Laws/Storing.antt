-- What is stored is valid: what an expression stores where every wire has a value of its type, and what it keeps. So it is as many cells as the
-- expression owns.
use Rattle.std.specs.Prelude.{ℕ, suc, ◌+◌, ◌≡◌, Bool, ◌||◌, List, [], ◌∷◌, ◌++◌, length, take, drop}
use Rattle.std.proofs.Common.{subst, sym, ◌∙◌, drop-cons}
use Rattle.std.proofs.Math.Bool.{true, false}
use Rattle.sheet.specs.Data.{ValueType, boolean, IsOf}
use Rattle.sheet.specs.Expressions.{Expression, constant, wire, input, last, unary, binary, conditional, switch, pre, fby, kept}
use Rattle.sheet.specs.Expressions.{Alternatives, only, either, Switch, present, reset, machine}
use Rattle.sheet.specs.Expressions.{CellForm, switch_forms, cell_forms, forms_in, cell_count, count_in}
use Rattle.sheet.specs.Typing.{done, ◌then◌, unary_type, operand_type, HasType, AlternativesHaveType, ValidCells, ValidRow}
use Rattle.sheet.specs.Laws.Readings.{forms_length, forms_in_length}
use Rattle.sheet.proofs.Laws.Typing.{own-type}
use Rattle.sheet.proofs.Laws.Memory.{pairwise-length, pairwise_append, start-valid}
use Rattle.sheet.specs.declared.Cell.{Cell}
use Rattle.sheet.specs.declared.Cell.TheVariants.{NotStarted}
use Rattle.kernel.specs.Values.{is_true, datum_in, Has, has}
use Rattle.kernel.specs.Instant.{Environment, state_of, second_runs, makes_fresh, switch_cells, value, value_in, resting, stored, stored_in}
use Rattle.kernel.proofs.Laws.Switches.{picked}
use Rattle.kernel.proofs.Laws.Typing.{OnWires, ValidFrom, parts, switch-parts, has_inherited, value-typed}
use Rattle.kernel.specs.declared.Value.{Value}

-- the part of a valid memory
slice-valid : (memory : List Cell) (fs : List CellForm) (k : ℕ) → ValidFrom memory fs k
    → ValidCells fs (take (length fs) (drop k memory))
unfolding ValidFrom
slice-valid memory [] k h = done
slice-valid memory (f ∷ fs) k h = rw (drop-cons memory k NotStarted h.0) (h.1 then slice-valid memory fs (suc k) h.2)

pub datum-type : {t : ValueType} {v : Value} → Has t v → IsOf t (datum_in v)
datum-type (has e) = e

switch-valid : (o : Switch) (second : Bool) → ValidCells (switch_forms o) (switch_cells o second)
switch-valid present second = done
switch-valid reset second = done
switch-valid machine second = tt then done

pub switch-length : (o : Switch) (second : Bool) → length (switch_cells o second) ≡ length (switch_forms o)
switch-length o second = sym (pairwise-length (switch-valid o second))

module _ (input_types wire_types : List ValueType) (now : Environment)
    (on_inputs : ValidRow input_types now.inputs) (on_lasts : ValidRow wire_types now.lasts)
    (on_wires : OnWires Has wire_types now.wires) where
  has_value : (t : ValueType) (e : Expression) (fresh : Bool) (k : ℕ)
      → HasType input_types wire_types t e → ValidFrom now.memory (cell_forms e) k → Has t (value now fresh e k)
  has_value = value-typed Has has_inherited input_types wire_types now on_inputs on_lasts on_wires

  resting-valid : (t : ValueType) (e : Expression) (fresh : Bool) (k : ℕ)
      → HasType input_types wire_types t e → ValidFrom now.memory (cell_forms e) k
      → ValidCells (cell_forms e) (resting now fresh e k)
  unfolding resting
  resting-valid t e true k h m = start-valid input_types wire_types t e h
  resting-valid t e false k h m = rw (forms_length e) at (slice-valid now.memory (cell_forms e) k m)

  mutual
    unfolding stored HasType cell_forms ValidFrom

    pub stored-valid : (t : ValueType) (e : Expression) (fresh : Bool) (k : ℕ)
        → HasType input_types wire_types t e → ValidFrom now.memory (cell_forms e) k
        → ValidCells (cell_forms e) (stored now fresh e k)
    stored-valid t (constant d) fresh k h m = done
    stored-valid t (wire w) fresh k h m = done
    stored-valid t (input i) fresh k h m = done
    stored-valid t (last w) fresh k h m = done
    stored-valid t (unary o a) fresh k h m = stored-valid (unary_type o) a fresh k h.1 m
    stored-valid t (binary o a b) fresh k h m =
        let (m₁, m₂) = parts now.memory a (cell_forms b) k m in
        pairwise_append (stored-valid (operand_type o) a fresh k h.1 m₁)
        (stored-valid (operand_type o) b fresh (k + cell_count a) h.2 m₂)
    stored-valid t (conditional c a b) fresh k h m =
        let (m₁, m₂₃) = parts now.memory c (cell_forms a ++ cell_forms b) k m in
        let (m₂, m₃) = parts now.memory a (cell_forms b) (k + cell_count c) m₂₃ in
        pairwise_append (stored-valid boolean c fresh k h.0 m₁)
        (pairwise_append (stored-valid t a fresh (k + cell_count c) h.1 m₂)
        (stored-valid t b fresh (k + cell_count c + cell_count a) h.2 m₃))
    stored-valid t (switch o cs bs) fresh k h m =
        let first = k + length (switch_forms o) in
        let (m₁, m₂) = switch-parts now.memory (switch_forms o) cs bs k m in
        let state = state_of now fresh o k in
        let holds = is_true (value_in now state fresh cs first) in
        let second = second_runs o state holds in
        pairwise_append (switch-valid o second)
        (pairwise_append (stored_in_lem boolean cs state fresh fresh first h.0 m₁)
        (stored_in_lem t bs second fresh (makes_fresh o holds || fresh) (first + count_in cs) h.1 m₂))
    stored-valid t (pre d a) fresh k h m =
        let held = datum-type (has_value t a fresh (suc k) h.1 m.2) in
        subst (λ u. IsOf u (datum_in (value now fresh a (suc k)))) (sym (own-type t d h.0)) held
        then stored-valid t a fresh (suc k) h.1 m.2
    stored-valid t (fby u a b) fresh k h m =
        let (m₁, m₂) = parts now.memory a (cell_forms b) (suc k) m.2 in
        let held = datum-type (has_value t b fresh (suc k + cell_count a) h.2 m₂) in
        subst (λ x. IsOf x (datum_in (value now fresh b (suc k + cell_count a)))) (sym h.0) held
        then pairwise_append (stored-valid t a fresh (suc k) h.1 m₁) (stored-valid t b fresh (suc k + cell_count a) h.2 m₂)
    stored-valid t (kept u a) fresh k h m =
        let held = datum-type (has_value t a fresh (suc k) h.1 m.2) in
        subst (λ x. IsOf x (datum_in (value now fresh a (suc k)))) (sym h.0) held then stored-valid t a fresh (suc k) h.1 m.2

    stored_in_lem : (t : ValueType) (xs : Alternatives) (second whole fresh : Bool) (k : ℕ)
        → AlternativesHaveType input_types wire_types t xs → ValidFrom now.memory (forms_in xs) k
        → ValidCells (forms_in xs) (stored_in now second whole fresh xs k)
    stored_in_lem t (only a) second whole fresh k h m = stored-valid t a fresh k h m
    stored_in_lem t (either a b) second whole fresh k h m =
        let (m₁, m₂) = parts now.memory a (cell_forms b) k m in
        let next = k + cell_count a in
        picked (ValidCells (cell_forms a ++ cell_forms b)) second
        (pairwise_append (stored-valid t a fresh k h.0 m₁) (resting-valid t b whole next h.1 m₂))
        (pairwise_append (resting-valid t a whole k h.0 m₁) (stored-valid t b fresh next h.1 m₂))

  pub stored-length : (t : ValueType) (e : Expression) (fresh : Bool) (k : ℕ)
      → HasType input_types wire_types t e → ValidFrom now.memory (cell_forms e) k → length (stored now fresh e k) ≡ cell_count e
  stored-length t e fresh k h m = sym (pairwise-length (stored-valid t e fresh k h m)) ∙ forms_length e

  pub resting-length : (t : ValueType) (e : Expression) (fresh : Bool) (k : ℕ)
      → HasType input_types wire_types t e → ValidFrom now.memory (cell_forms e) k → length (resting now fresh e k) ≡ cell_count e
  resting-length t e fresh k h m = sym (pairwise-length (resting-valid t e fresh k h m)) ∙ forms_length e

  pub stored_in_length : (t : ValueType) (xs : Alternatives) (second whole fresh : Bool) (k : ℕ)
      → AlternativesHaveType input_types wire_types t xs → ValidFrom now.memory (forms_in xs) k
      → length (stored_in now second whole fresh xs k) ≡ count_in xs
  stored_in_length t xs second whole fresh k h m = sym (pairwise-length (stored_in_lem t xs second whole fresh k h m)) ∙ forms_in_length xs
